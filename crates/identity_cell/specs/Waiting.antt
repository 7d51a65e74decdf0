-- What ends a load that a caller met.
use Rattle.std.specs.Prelude.{◌≡◌, ℕ, ◌+◌, ◌≤◌, ◌⊎◌, Bool, List, ◌∷◌, ◌++◌}
use Rattle.identity_cell.specs.declared.event.Event.{Event}
use Rattle.identity_cell.specs.declared.event.Event.TheVariants.{Done, Failed, Dropped, Clear}
use Rattle.identity_cell.specs.declared.event.ClearReply.TheVariants as reply

-- the event is one of these
pub record StandsIn (e : Event) (es : List Event) : Type 0 where
  pub earlier : List Event
  pub later : List Event
  pub split : es ≡ earlier ++ e ∷ later

-- a value that expires at this moment was removed
abbrev pub ClearedIn : ℕ → ℕ → List Event → Type 0
ClearedIn buffer expiry es =
    (now : ℕ) × (waited : Bool) × StandsIn (Clear now waited reply.None) es × (expiry ≤ now + buffer)

-- the load of the ticket stored a value, and that was removed later
pub record WasCleared (buffer ticket : ℕ) (es : List Event) : Type 0 where
  pub expiry : ℕ
  pub earlier : List Event
  pub later : List Event
  pub split : es ≡ earlier ++ Done ticket expiry ∷ later
  pub cleared : ClearedIn buffer expiry later

-- the load of the ticket failed or was dropped, or its value was removed
abbrev pub EndedIn : ℕ → ℕ → List Event → Type 0
EndedIn buffer ticket es = StandsIn (Failed ticket) es ⊎ (StandsIn (Dropped ticket) es ⊎ WasCleared buffer ticket es)

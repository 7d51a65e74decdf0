-- The histories of a cell: which events may come where, and what they leave.
use Rattle.std.specs.Prelude.{ℕ, ◌+◌, ◌==◌, ◌&&◌, nat_lt, not, Bool, Option, Some, None, option_and_then, if◌then◌else◌}
use Rattle.std.specs.Prelude.{List, [], ◌∷◌, IsSome}
use Rattle.identity_cell.specs.declared.event.Event.{Event}
use Rattle.identity_cell.specs.declared.event.Event.TheVariants.{Begin, Hit, Wait, Done, Failed, Dropped, Clear}
use Rattle.identity_cell.specs.declared.event.ClearReply.{ClearReply}
use Rattle.identity_cell.specs.declared.event.ClearReply.TheVariants as reply

-- where a cell stands: without a value, in the load of a ticket, or with the value that the load of
-- a ticket stored and that expires at a moment
pub data Standing : Type 0 where
  Empty : Standing
  Loading : ℕ → Standing
  Full : ℕ → ℕ → Standing

-- what is left where a caller that waited or not is answered so at a moment; nothing where it may not
abbrev pub after_clear : ℕ → Standing → ℕ → Bool → ClearReply → Option Standing
after_clear buffer (Full t expiry) now waited reply.Kept =
    if nat_lt (now + buffer) expiry && not waited then Some (Full t expiry) else None
after_clear buffer (Full t expiry) now waited reply.None =
    if nat_lt (now + buffer) expiry then (if waited then Some (Full t expiry) else None) else Some Empty
after_clear buffer Empty now waited reply.None = Some Empty
after_clear buffer (Loading t) now waited reply.NotYet = Some (Loading t)
after_clear buffer _ now waited _ = None

-- what an event leaves, after so many earlier Begins; nothing where it may not come
abbrev pub after : ℕ → ℕ → Standing → Event → Option Standing
after buffer begun Empty (Begin t) = if t == begun then Some (Loading t) else None
after buffer begun (Full t expiry) (Hit u) = if u == t then Some (Full t expiry) else None
after buffer begun (Loading t) Wait = Some (Loading t)
after buffer begun (Loading t) (Done u expiry) = if u == t then Some (Full t expiry) else None
after buffer begun (Loading t) (Failed u) = if u == t then Some Empty else None
after buffer begun (Loading t) (Dropped u) = if u == t then Some Empty else None
after buffer begun standing (Clear now waited reply) = after_clear buffer standing now waited reply
after buffer begun _ _ = None

-- how many loads an event begins
abbrev pub begins : Event → ℕ
begins (Begin t) = 1
begins _ = 0

-- how many Begins there are
abbrev pub begun_in : List Event → ℕ
begun_in [] = 0
begun_in (e ∷ es) = begins e + begun_in es

-- where these events lead, one after another; nowhere where one may not come
abbrev pub replay_from : ℕ → ℕ → Standing → List Event → Option Standing
replay_from buffer begun standing [] = Some standing
replay_from buffer begun standing (e ∷ es) =
    option_and_then (λ next. replay_from buffer (begun + begins e) next es) (after buffer begun standing e)

-- where a new cell's events lead; nowhere where one may not come
abbrev pub replay : ℕ → List Event → Option Standing
replay buffer events = replay_from buffer 0 Empty events

-- each event may come where it stands
abbrev pub IsLegal : ℕ → List Event → Type 0
IsLegal buffer events = IsSome (replay buffer events)

-- What the note of a choice tells.
use Rattle.std.specs.Prelude.{◌≡◌, ◌⊎◌, ◌↔◌, ℕ, ◌+◌, ◌<◌, Bool, IsSome, IsTrue, List, ◌∷◌, ◌++◌, Option, None, Some}
use Rattle.std.specs.Prelude.{unwrap_or}
use Rattle.identity_cell.specs.LazyCache.{Cache, AnswersLook, cell_at, done_at, expiry_by, looked_at, put}
use Rattle.identity_cell.specs.declared.cell.CellState.TheVariants.{Loading, Full}
use Rattle.identity_cell.specs.declared.identity_load.IdentityLoad.{IdentityLoad}
use Rattle.identity_cell.specs.declared.looked.Looked.TheVariants as looked
use Rattle.outside.specs.Calls.{OutsideCall, Word}
use Rattle.outside.specs.Clock.{clock_calls}
use Rattle.outside.specs.declared.answers.IdentityPoll.{IdentityPoll}
use Rattle.run_grammar.specs.declared.answer.Answer.TheVariants as answers
use Rattle.run_grammar.specs.declared.answer.Chosen.{Chosen}
use Rattle.smithy_context.specs.StandingLayers.{StandingLayers}
use Rattle.smithy_types.specs.declared.identity.Endpoint.{Endpoint}
use Rattle.smithy_types.specs.declared.notes.ChooseNote.{ChooseNote}
use Rattle.smithy_types.specs.declared.notes.ChooseNote.TheVariants.{Hit, Load, Uncached}
use Rattle.client_auth.specs.Caching.{giving_up}
use Rattle.client_auth.specs.Identities.{ChoosesBy}
use Rattle.client_auth.specs.declared.identities.CachedIdentities.{CachedIdentities}
use Rattle.client_auth.specs.declared.identities.Identities.{Identities}

-- the chosen scheme's cell had the chosen identity, unexpired at the moment of the look,
-- and nothing but the clock was asked
pub record WasKept (time_source : Bool) (old : Option CachedIdentities) (chosen : Chosen)
    (calls : List OutsideCall) : Type 0 where
  pub cached : CachedIdentities
  pub keeps : old ≡ Some cached
  pub moment : Option ℕ
  pub known : IsSome moment ↔ IsTrue time_source
  pub told : calls ≡ clock_calls moment
  pub ticket : ℕ
  pub expiry : ℕ
  pub had : (cell_at cached.cache chosen.scheme).state ≡ Full ticket chosen.identity expiry
  pub unexpired : unwrap_or moment 0 + (cell_at cached.cache chosen.scheme).buffer < expiry

-- a look into the scheme's cell found no value and begins this load
pub record BeginsLoad (id : List ℕ) (old : Cache) (load : IdentityLoad) (new : Cache) : Type 0 where
  pub of_scheme : load.id ≡ id
  pub had_none : AnswersLook (cell_at old id) load.asked_at (looked.Load load.ticket)
  pub begun : new ≡ put old id (looked_at (cell_at old id) load.asked_at)

-- the load is open already, or is begun
abbrev pub HasOpen : List ℕ → CachedIdentities → IdentityLoad → Cache → Type 0
HasOpen id cached load cache =
    ((cached.current ≡ Some load) × (cache ≡ cached.cache))
    ⊎ ((cached.current ≡ None) × BeginsLoad id cached.cache load cache)

-- the load was open and is done: where its cell still waited for it, it has the chosen identity,
-- by a word that was drawn; its sleep is given up, and no load is open
pub record WasLoaded (old : Option CachedIdentities) (chosen : Chosen) (new : Option CachedIdentities)
    (calls : List OutsideCall) : Type 0 where
  pub cached : CachedIdentities
  pub keeps : old ≡ Some cached
  pub load : IdentityLoad
  pub cache : Cache
  pub was_open : HasOpen chosen.scheme cached load cache
  pub word : ℕ
  pub earlier : List OutsideCall
  pub drawn : calls ≡ earlier ++ Word word ∷ giving_up load.sleep
  pub after : CachedIdentities
  pub keeps_on : new ≡ Some after
  pub expiry : ℕ
  pub expires : expiry ≡ expiry_by cache.terms chosen.identity load.asked_at word
  pub done : after.cache ≡ done_at cache load.id load.ticket chosen.identity expiry
  pub kept : (cell_at cache load.id).state ≡ Loading load.ticket
      → (cell_at after.cache load.id).state ≡ Full load.ticket chosen.identity expiry
  pub none_open : after.current ≡ None

-- each choice has a note, and that says where its identity is from
pub record Tells (time_source : Bool) (old : Option CachedIdentities) (chosen : Chosen) (new : Option CachedIdentities)
    (calls : List OutsideCall) : Type 0 where
  pub note : ChooseNote
  pub noted : chosen.note ≡ Some note
  pub uncached : (note ≡ Uncached) ↔ (old ≡ None)
  pub hit : note ≡ Hit → WasKept time_source old chosen calls
  pub load : note ≡ Load → WasLoaded old chosen new calls

-- so it is of every choice
abbrev pub NotesTell : {A R : Type 0} → (A → List ℕ) → (R → IdentityPoll → R → Type 0) → Type 0
NotesTell {A} {R} names polls =
    (options : List (List ℕ)) (schemes : List A) (endpoint : Endpoint) (time_source : Bool) (settings : StandingLayers)
    (old : Identities R) (chosen : Chosen) (new : Identities R) (calls : List OutsideCall)
    → ChoosesBy names polls options schemes endpoint time_source settings
    old.cached old (answers.Chosen chosen) new calls
    → Tells time_source old.cached chosen new.cached calls

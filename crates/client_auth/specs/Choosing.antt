-- Choose, without a cache of identities.
use Rattle.std.specs.Prelude.{◌≡◌, ℕ, Bool, true, false, ◌&&◌, if◌then◌else◌, List, [], ◌∷◌, map, position, slice_get}
use Rattle.std.specs.Prelude.{slice_set, Option, None, Some}
use Rattle.auth_endpoint.specs.Choice.{IsChosen, NoneChosen, is_id, lack_of, reprioritized, schemes_of}
use Rattle.auth_endpoint.specs.Texts.{no_match_text}
use Rattle.auth_endpoint.specs.declared.explored.ExploreResult.{ExploreResult}
use Rattle.auth_endpoint.specs.declared.explored.ExploredList.{ExploredList}
use Rattle.auth_endpoint.specs.declared.explored.NoMatchingAuthSchemeError.TheVariants.{Explored}
use Rattle.outside.specs.Calls.{OutsideCall, DropResolve}
use Rattle.outside.specs.declared.answers.IdentityPoll.{IdentityPoll}
use Rattle.outside.specs.declared.answers.IdentityPoll.TheVariants as polled
use Rattle.run_grammar.specs.declared.answer.Answer.{Answer}
use Rattle.run_grammar.specs.declared.answer.Answer.TheVariants as answers
use Rattle.smithy_context.specs.StandingLayers.{StandingLayers}
use Rattle.smithy_types.specs.declared.identity.Endpoint.{Endpoint}
use Rattle.smithy_types.specs.declared.notes.ChooseNote.TheVariants.{Uncached}
use Rattle.client_auth.specs.Reading.{has_v2, standing_preference}
use Rattle.client_auth.specs.Sourcing.{AsksSource}
use Rattle.client_auth.specs.declared.choose.OpenLoad.{OpenLoad}
use Rattle.client_auth.specs.declared.choose.Picked.{Picked}
use Rattle.client_auth.specs.declared.choose.Picked.TheVariants.{Scheme, Refused}
use Rattle.client_auth.specs.declared.sources.IdentitySource.{IdentitySource}
use Rattle.client_auth.specs.declared.sources.IdentitySource.TheVariants.{Outside, Resolver}
use Rattle.client_auth.specs.declared.sources.RegisteredSource.{RegisteredSource}

-- no load is open outside
abbrev pub no_load : OpenLoad
no_load = record { by_outside = false }

-- a load that is open outside is dropped there
abbrev pub ending_load : OpenLoad → List OutsideCall
ending_load load = if load.by_outside then DropResolve ∷ [] else []

-- without the mark V2 the endpoint is resolved before the choice
abbrev pub endpoint_before : Endpoint → StandingLayers → Option Endpoint
endpoint_before endpoint settings = if has_v2 settings then None else Some endpoint

-- ---- which option

-- the first option that lacks nothing, or the text that says what each lacks
abbrev pub PicksAmong : (List ℕ → Option ExploreResult) → List (List ℕ) → Picked → Type 0
PicksAmong lack ordered (Scheme id) = (place : ℕ) × IsChosen lack ordered place × (slice_get ordered place ≡ Some id)
PicksAmong lack ordered (Refused text) =
    (explored : ExploredList) × NoneChosen lack ordered explored × (text ≡ no_match_text (Explored explored))

-- that, among the options in the order of preference
abbrev pub Picks : List (List ℕ) → List (List ℕ) → List (List ℕ) → Option Endpoint → StandingLayers → Picked → Type 0
Picks schemes sources options endpoint settings picked =
    PicksAmong (lack_of schemes sources (schemes_of endpoint))
    (reprioritized (standing_preference settings) options) picked

-- ---- whose identity

-- the identity is loaded by the outside
abbrev pub is_outside : {R : Type 0} → IdentitySource R → Bool
is_outside Outside = true
is_outside (Resolver resolver) = false

-- the identity isn't there yet
abbrev pub is_pending : IdentityPoll → Bool
is_pending polled.Pending = true
is_pending (polled.Ready identity) = false
is_pending (polled.Failed text) = false

-- what a source's answer makes of a choice
abbrev pub answer_with : List ℕ → Option Endpoint → Option IdentityPoll → Answer
answer_with id endpoint None = answers.Absent
answer_with id endpoint (Some polled.Pending) = answers.Pending
answer_with id endpoint (Some (polled.Failed text)) = answers.Failed text
answer_with id endpoint (Some (polled.Ready identity)) = answers.Chosen (record {
  scheme = id;
  identity = identity;
  endpoint = endpoint;
  settings = [];
  note = Some Uncached;
})

module _ {R : Type 0} (polls : R → IdentityPoll → R → Type 0) where
  -- the source at this place is asked once, and the others stay; its load is open where the outside is pending
  pub record AsksAt (id : List ℕ) (place : ℕ) (old : List (RegisteredSource R)) (answer : IdentityPoll)
      (new : List (RegisteredSource R)) (load : OpenLoad) (calls : List OutsideCall) : Type 0 where
    pub registered : RegisteredSource R
    pub there : slice_get old place ≡ Some registered
    pub after : IdentitySource R
    pub asked : AsksSource polls id registered.source answer after calls
    pub others : new ≡ slice_set old place (record registered { source = after })
    pub open_load : load.by_outside ≡ (is_outside after && is_pending answer)

  -- without a source nothing is asked
  abbrev pub Asks : List ℕ → Option ℕ → List (RegisteredSource R) → OpenLoad → Option IdentityPoll
      → List (RegisteredSource R) → OpenLoad → List OutsideCall → Type 0
  Asks id None old load None new load_after calls = (new ≡ old) × (load_after ≡ load) × (calls ≡ [])
  Asks id (Some place) old load (Some answer) new load_after calls = AsksAt id place old answer new load_after calls
  Asks id None old load (Some answer) new load_after calls = ⊥
  Asks id (Some place) old load None new load_after calls = ⊥

  -- the source that has this id is asked, and its answer makes the answer
  pub record Resolves (id : List ℕ) (endpoint : Option Endpoint) (old : List (RegisteredSource R)) (load : OpenLoad)
      (a : Answer) (new : List (RegisteredSource R)) (load_after : OpenLoad) (calls : List OutsideCall) : Type 0 where
    pub polled : Option IdentityPoll
    pub asks : Asks id (position (λ s. is_id id s.id) old) old load polled new load_after calls
    pub answer_is : a ≡ answer_with id endpoint polled

-- ---- both

-- what follows what was picked: a refusal asks nothing
abbrev pub GoesOn : {R : Type 0} → (R → IdentityPoll → R → Type 0) → Option Endpoint → Picked
    → List (RegisteredSource R) → OpenLoad → Answer → List (RegisteredSource R) → OpenLoad → List OutsideCall → Type 0
GoesOn polls endpoint (Scheme id) old load a new load_after calls =
    Resolves polls id endpoint old load a new load_after calls
GoesOn polls endpoint (Refused text) old load a new load_after calls =
    (a ≡ answers.Failed text) × (new ≡ old) × (load_after ≡ load) × (calls ≡ [])

-- a scheme is picked, and its identity is asked for
pub record Chooses {A R : Type 0} (names : A → List ℕ) (polls : R → IdentityPoll → R → Type 0) (options : List (List ℕ))
    (schemes : List A) (endpoint : Endpoint) (settings : StandingLayers)
    (old : List (RegisteredSource R)) (load : OpenLoad) (a : Answer) (new : List (RegisteredSource R))
    (load_after : OpenLoad) (calls : List OutsideCall) : Type 0 where
  pub picked : Picked
  pub picks : Picks (map names schemes) (map (λ (s : RegisteredSource R). s.id) old) options
      (endpoint_before endpoint settings) settings picked
  pub goes_on : GoesOn polls (endpoint_before endpoint settings) picked old load a new load_after calls

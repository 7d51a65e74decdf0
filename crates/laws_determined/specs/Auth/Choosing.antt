-- Choose is determined.
use Rattle.std.specs.Prelude.{◌≡◌, ℕ, Bool, true, List, Option, Ok, is_some}
use Rattle.client_auth.specs.Identities.{ChoosesBy}
use Rattle.outside.specs.Calls.{OutsideCall, OfTimers}
use Rattle.outside.specs.declared.answers.IdentityPoll.{IdentityPoll}
use Rattle.run_grammar.specs.declared.answer.Answer.{Answer}
use Rattle.smithy_context.specs.StandingLayers.{StandingLayers}
use Rattle.smithy_types.specs.Chain.{Chained}
use Rattle.smithy_types.specs.declared.identity.Endpoint.{Endpoint}
use Rattle.smithy_types.specs.declared.timers.TimersCall.TheVariants.{Start}
use Rattle.laws_determined.specs.Steady.Steady.{AnswersAlike}
use Rattle.laws_determined.specs.Auth.Alike.{Choices, ChoicesAlike}

-- a sleep that is started is there
abbrev pub HasSleeps : {X : Type 0} → (X → OutsideCall → X → Type 0) → Type 0
HasSleeps {X} makes =
    (old new : X) (nanos : ℕ) (sleep : Option ℕ) → makes old (OfTimers (Start nanos (Ok sleep))) new
    → is_some sleep ≡ true

-- what a resolver answers, and what it is then, follows from what it was
abbrev pub PollsAlike : {R : Type 0} → (R → IdentityPoll → R → Type 0) → Type 0
PollsAlike {R} polls =
    (one after left : R) (a b : IdentityPoll) → polls one a after → polls one b left → (a ≡ b) × (after ≡ left)

module _ {X A R : Type 0} (makes : X → OutsideCall → X → Type 0) (names : A → List ℕ)
    (polls : R → IdentityPoll → R → Type 0) where
  -- Choose, with the calls of the outside that it makes
  abbrev pub Chooses : List (List ℕ) → List A → Endpoint → Bool → StandingLayers → Choices X R → Answer → Choices X R
      → Type 0
  Chooses options schemes endpoint time_source settings old a new =
      (calls : List OutsideCall) × Chained makes old.outside calls new.outside
      × ChoosesBy names polls options schemes endpoint time_source settings old.identities.cached
      old.identities a new.identities calls

  -- where resolvers are so and sleeps are there, a Choose has one answer from choices that are alike, and leaves such
  abbrev pub ChoicesAreDetermined : Type 0
  ChoicesAreDetermined = PollsAlike polls → HasSleeps makes
      → (options : List (List ℕ)) (schemes : List A) (endpoint : Endpoint) (time_source : Bool)
      (settings : StandingLayers)
      → AnswersAlike ChoicesAlike (Chooses options schemes endpoint time_source settings)

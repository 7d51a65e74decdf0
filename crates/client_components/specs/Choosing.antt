-- Choose.
use Rattle.std.specs.Prelude.{◌≡◌, ℕ, List}
use Rattle.client_auth.specs.Identities.{ChoosesBy}
use Rattle.outside.specs.Calls.{OutsideCall}
use Rattle.outside.specs.declared.answers.IdentityPoll.{IdentityPoll}
use Rattle.run_grammar.specs.declared.answer.Answer.{Answer}
use Rattle.smithy_context.specs.StandingLayers.{StandingLayers}
use Rattle.smithy_types.specs.Chain.{Chained}
use Rattle.client_components.specs.declared.parts.Parts.{Parts}

module _ {T X Q C I A R Z D P L : Type 0} (makes : X → OutsideCall → X → Type 0) where
  -- a scheme is chosen and its identity asked for; the identities and the outside change
  pub record Chooses (names : A → List ℕ) (polls : R → IdentityPoll → R → Type 0) (old : Parts T X Q C I A R Z D P L)
      (settings : StandingLayers) (a : Answer) (new : Parts T X Q C I A R Z D P L) : Type 0 where
    pub calls : List OutsideCall
    pub made : Chained makes old.outside calls new.outside
    pub chooses : ChoosesBy names polls old.given.options old.given.schemes.items old.given.endpoint
        old.given.time_source settings old.identities.cached old.identities a new.identities calls
    pub others : new ≡ record old { identities = new.identities; outside = new.outside }

-- Two clients of a host that are alike, and what a host does to both.
use Rattle.std.proofs.Common.{◌≡◌, ◌∙◌, refl, ap, ℕ, List, [], ◌∷◌, false}
use Rattle.cli_serve.specs.Means.{hosted_means}
use Rattle.cli_serve.specs.Opening.{ServedClient}
use Rattle.client_components.specs.declared.parts.Parts.{Parts}
use Rattle.client_retries.specs.Meanings.{InterceptorMeans}
use Rattle.host_session.specs.Handing.{all_handed, fed}
use Rattle.host_session.specs.Meaning.{HostedMeaning}
use Rattle.host_session.specs.Seats.{feeding}
use Rattle.outside_hosted.specs.Handing.{handed}
use Rattle.outside_hosted.specs.Steps.{moved_to}
use Rattle.outside_hosted.specs.Telling.{after_told}
use Rattle.outside_hosted.specs.declared.events.HostEvent.{HostEvent}
use Rattle.outside_hosted.specs.declared.events.HostEvent.TheVariants as event
use Rattle.outside_hosted.specs.declared.hosted_outside.HostedOutside.{HostedOutside}
use Rattle.rate_limit.specs.Pace.{Pace}
use Rattle.retry_quota.specs.Registers.{Registers}
use Rattle.retry_quota.specs.declared.permit.Permit.{Permit}
use Rattle.smithy_context.specs.declared.context.InterceptorContext.{InterceptorContext}
use Rattle.smithy_types.specs.declared.notes.RetryAction.{RetryAction}
use Rattle.laws_determined.specs.Auth.Alike.{IdentitiesAlike}
use Rattle.laws_determined.specs.Calls.Alike.{OpenAlike}
use Rattle.laws_determined.specs.Client.Alike.{GivenAlike, PartsAlike}
use Rattle.laws_determined.specs.Retries.Alike.{AreAlike, HoldAlike}
use Rattle.laws_program.proofs.clients.Invoked.{pays, pays_from}

-- what a host hands in leaves whether it is waited for
handed_still : (come : HostEvent) (old : HostedOutside) → (handed come old).is_parked ≡ old.is_parked
handed_still (event.Reply call reply) old = refl
handed_still (event.Frame call frame) old = refl
handed_still (event.Load id identity) old = refl

all_still : (events : List HostEvent) (old : HostedOutside) → (all_handed events old).is_parked ≡ old.is_parked
all_still [] old = refl
all_still (come ∷ events) old = all_still events (handed come old) ∙ handed_still come old

-- parts that are alike but for the quota that each has of its own
pub record BarePartsAlike {T X C I A R Z D L : Type 0} (one two : Parts T X (Registers L) C I A R Z D Permit L) : Type 0 where
  pub given : GivenAlike one.given two.given
  pub sleeps : one.sleeps ≡ two.sleeps
  pub call : OpenAlike one.call two.call
  pub strategy : HoldAlike pays_from pays one.strategy two.strategy
  pub interceptors : one.interceptors.items ≡ two.interceptors.items
  pub identities : IdentitiesAlike one.identities two.identities
  pub outside : one.outside ≡ two.outside

module _ {C I : Type 0} where
  -- their parts are alike, and they were asked and answered the same
  pub record HaltedAlike (one two : ServedClient C I) : Type 0 where
    pub parts : PartsAlike pays_from pays one.components.parts two.components.parts
    pub log : one.components.log ≡ two.components.log

  -- and no host is waited for
  pub record WorldsAlike (one two : ServedClient C I) : Type 0 where
    pub halted : HaltedAlike one two
    pub awake : one.components.parts.outside.is_parked ≡ false

  -- so it is but for the quota that each has of its own
  pub record BareAlike (one two : ServedClient C I) : Type 0 where
    pub parts : BarePartsAlike one.components.parts two.components.parts
    pub log : one.components.log ≡ two.components.log
    pub awake : one.components.parts.outside.is_parked ≡ false

  module _ (says : C → InterceptorContext → RetryAction → RetryAction) (chain : InterceptorMeans I) where
    abbrev pub means : HostedMeaning (ServedClient C I)
    means = hosted_means says chain

    -- registers that are alike are lent to both
    pub lent_alike : (one two : ServedClient C I) (quota given : Registers Pace) → BareAlike one two → AreAlike quota given → WorldsAlike (means.with_quota quota one) (means.with_quota given two)
    lent_alike one two quota given alike quotas = record {
      halted = record {
        parts = record {
          given = alike.parts.given;
          sleeps = alike.parts.sleeps;
          call = alike.parts.call;
          strategy = alike.parts.strategy;
          interceptors = alike.parts.interceptors;
          identities = alike.parts.identities;
          outside = alike.parts.outside;
          quota = quotas;
        };
        log = alike.log;
      };
      awake = alike.awake;
    }

    -- each gets its own back
    pub back_alike : (one two : ServedClient C I) (quota given : Registers Pace) → WorldsAlike one two → BareAlike (means.with_quota quota one) (means.with_quota given two)
    back_alike one two quota given alike = record {
      parts = record {
        given = alike.halted.parts.given;
        sleeps = alike.halted.parts.sleeps;
        call = alike.halted.parts.call;
        strategy = alike.halted.parts.strategy;
        interceptors = alike.halted.parts.interceptors;
        identities = alike.halted.parts.identities;
        outside = alike.halted.parts.outside;
      };
      log = alike.halted.log;
      awake = alike.awake;
    }

    outsides_alike : (one two : ServedClient C I) (into : HostedOutside → HostedOutside) → HaltedAlike one two
        → HaltedAlike (means.with_outside (into (means.outside one)) one) (means.with_outside (into (means.outside two)) two)
    outsides_alike one two into alike = record {
      parts = record {
        given = alike.parts.given;
        sleeps = alike.parts.sleeps;
        call = alike.parts.call;
        strategy = alike.parts.strategy;
        interceptors = alike.parts.interceptors;
        identities = alike.parts.identities;
        outside = ap into alike.parts.outside;
        quota = alike.parts.quota;
      };
      log = alike.log;
    }

    -- a host feeds both
    pub fed_alike : (moment : ℕ) (events : List HostEvent) (one two : ServedClient C I) → WorldsAlike one two → WorldsAlike (feeding means moment events one) (feeding means moment events two)
    fed_alike moment events one two alike = record {
      halted = outsides_alike one two (fed moment events) alike.halted;
      awake = all_still events (moved_to moment (means.outside one)) ∙ alike.awake;
    }

    -- a host is told of both
    pub told_alike : (one two : ServedClient C I) → HaltedAlike one two → WorldsAlike (means.with_outside (after_told (means.outside one)) one) (means.with_outside (after_told (means.outside two)) two)
    told_alike one two alike = record { halted = outsides_alike one two after_told alike; awake = refl }

    -- their logs are emptied
    pub emptied_alike : (one two : ServedClient C I) → WorldsAlike one two → WorldsAlike (means.emptied one) (means.emptied two)
    emptied_alike one two alike = record { halted = record { parts = alike.halted.parts; log = refl }; awake = alike.awake }

-- What a caller has done is what its decisions and the closing of its strategy did.
use Rattle.std.proofs.Common.{◌≡◌, ◌∙◌, refl, ap, subst, ℕ, List, [], ◌++◌}
use Rattle.std.specs.Prelude.{Option, None, Some}
use Rattle.retry_quota_cell.specs.Caller.{Caller}
use Rattle.retry_quota_cell.specs.Callers.{own, calls_at}
use Rattle.retry_quota_cell.specs.Known.{Place}
use Rattle.cli_client.specs.Means.{own_chain, own_says}
use Rattle.client_builder.specs.Built as built
use Rattle.client_builder.specs.declared.builder.StrategyKind.{StrategyKind}
use Rattle.client_builder.specs.declared.builder.StrategyKind.TheVariants as kinds
use Rattle.rate_limit.specs.Pace.{Pace}
use Rattle.retry_policy.specs.Decision.{releasing}
use Rattle.retry_quota.specs.History as history
use Rattle.retry_quota.specs.declared.permit.Permit.{Permit}
use Rattle.client_scripted.specs.Clients.{builder_of}
use Rattle.client_scripted.specs.Parts.{identities_of, strategy_of}
use Rattle.cli_shell.specs.declared.status.PrintStatus.{PrintStatus}
use Rattle.cli_fleet.specs.Steps.{AreOfDecisions, RunsSteps, steps_in}
use Rattle.cli_fleet.specs.Working.{Worked}
use Rattle.cli_fleet.specs.declared.work.CallerWork.{CallerWork}
use Rattle.cli_fleet.proofs.Stepping.{closes, held_in, ran}

some_of : {X : Type 0} (x y : X) → Some x ≡ Some y → x ≡ y
some_of x y e = cc

-- a new strategy holds nothing
holds_nothing : (place : Place) (k : StrategyKind) → held_in place (built.strategy_of {P = Permit} k) ≡ None
holds_nothing place kinds.Never = refl
holds_nothing place kinds.Standard = refl

module _ (place : Place) (work : CallerWork) (text : List ℕ) (outcome : Option PrintStatus) (steps : List history.Entry) (w : Worked place work text outcome steps) where
  strategy_is : Some w.first.parts.strategy ≡ Some (built.strategy_of {P = Permit} (strategy_of work.client.rules.retry))
  unfolding builder_of
  strategy_is = w.built.parts.strategy

  starts : held_in place w.first.parts.strategy ≡ None
  starts = ap (held_in place) (some_of _ _ strategy_is) ∙ holds_nothing place (strategy_of work.client.rules.retry)

  none_made : own w.first.parts.quota.pass.view ≡ []
  none_made = ap (λ (q : Caller Pace). own q.pass.view) w.built.parts.quota_is ∙ ap (λ ps. calls_at ps w.pass.view.seen) w.unused.unused

  pub all_steps : AreOfDecisions place.opening.book w.plays.runs.runs steps
  all_steps =
      let runs = ran place own_says own_chain (identities_of work.client.auth) w.first.parts w.plays.last w.plays.runs.runs w.plays.runs.made in
      let closing = closes place w.plays.last.quota w.plays.after w.plays.last.strategy w.plays.emptied w.plays.closes in
      let given = steps_in (releasing (held_in place w.plays.last.strategy)) in
      record {
        made = runs.0;
        held = held_in place w.plays.last.strategy;
        decisions = subst (λ x. RunsSteps place.opening.book w.plays.runs.runs x runs.0 (held_in place w.plays.last.strategy)) starts runs.1;
        all = w.plays.steps_are ∙ closing ∙ ap (λ l. l ++ given) (runs.2 ∙ ap (λ l. l ++ runs.0) none_made);
      }

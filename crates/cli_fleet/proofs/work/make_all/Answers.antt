use Rattle.std.proofs.Common.{ap, subst, sym, IfOk}
use Rattle.std.proofs.lemmas.Result.{IfOk-weaker}
use Rattle.retry_quota_cell.specs.Callers.{own}
use Rattle.cli_fleet.specs.Invoking.{RunsAll}
use Rattle.cli_fleet.specs.Means.{cell_means, world_means}
use Rattle.cli_fleet.proofs.work.make_all.Goals as goal

pub returns-clause-told : goal.returns-clause-told
returns-clause-told g c =
    let means = world_means (cell_means g.B.At.place) g.C.ClassifyRetry.says (record { names = g.I.Intercept.names; hooks = g.I.Intercept.hooks; runs = g.I.Intercept.runs; with_bucket = g.I.TakeOffer.with_bucket; with_verdict = g.I.TakeOffer.with_verdict }) in
    let last = c.run_target-outcome.new.world.parts in
    IfOk-weaker c.make_told.result _ _ (λ told h. record {
      last = last;
      runs = subst (λ b. RunsAll means c.args.identities c.args.world.parts c.args.invocations b last told.text.items told.outcome) c.new-text.ensures.items
          (subst (λ t. RunsAll means c.args.identities c.args.world.parts c.args.invocations c.new-text.result.items last t told.outcome) (ap (λ v. v.items) (sym h.0))
          (subst (λ r. IfOk r (λ o. RunsAll means c.args.identities c.args.world.parts c.args.invocations c.new-text.result.items last c.run_target-outcome.new.out.items o)) h.1 c.run_target-outcome.ensures));
      emptied = c.close.new.self.parts.strategy;
      after = c.close.new.self.parts.quota;
      closes = c.close.ensures.strategy;
      steps_are = ap (λ p. own p.view) c.pass_of.ensures.pass;
    }) c.make_told.ensures

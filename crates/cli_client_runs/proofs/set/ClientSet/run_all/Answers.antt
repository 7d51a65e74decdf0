use Rattle.cli_client_runs.specs.Means.{ServedBy}
use Rattle.cli_client_runs.proofs.Running.{none_ran, one_more}
use Rattle.cli_client_runs.proofs.set.ClientSet.run_all.Goals as goal

pub loop-invocation-init : goal.loop-invocation-init
loop-invocation-init g c =
    none_ran (ServedBy g.C.ClassifyRetry.says (record { names = g.I.Intercept.names; hooks = g.I.Intercept.hooks; runs = g.I.Intercept.runs; with_bucket = g.I.TakeOffer.with_bucket; with_verdict = g.I.TakeOffer.with_verdict }))
    c.args.self.now c.args.out.now.items

pub loop-invocation-preserved : goal.loop-invocation-preserved
loop-invocation-preserved g c =
    one_more (ServedBy g.C.ClassifyRetry.says (record { names = g.I.Intercept.names; hooks = g.I.Intercept.hooks; runs = g.I.Intercept.runs; with_bucket = g.I.TakeOffer.with_bucket; with_verdict = g.I.TakeOffer.with_verdict }))
    c.args.self.now c.loop-invocation.self c.run_one.new.self c.args.out.now.items c.loop-invocation.out.items c.run_one.new.out.items
    c.loop-invocation.yielded c.loop-invocation.number c.in_ok-number.number c.loop-invocation.outcome c.in_ok-outcome.outcome c.in-Some.invocation
    c.in_ok-number.ensures c.loop-invocation.invariant c.in_ok-outcome.ensures

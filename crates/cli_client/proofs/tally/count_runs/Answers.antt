use Rattle.cli_client_runs.specs.Means.{ServedBy}
use Rattle.cli_client.proofs.Tallied.{none_tallied, one_more}
use Rattle.cli_client.proofs.tally.count_runs.Goals as goal

pub loop-invocation-init : goal.loop-invocation-init
loop-invocation-init g c =
    none_tallied (ServedBy g.C.ClassifyRetry.says (record { names = g.I.Intercept.names; hooks = g.I.Intercept.hooks; runs = g.I.Intercept.runs; with_bucket = g.I.TakeOffer.with_bucket; with_verdict = g.I.TakeOffer.with_verdict }))
    c.args.set.now c.new-tally.result c.new-tally.ensures

pub loop-invocation-preserved : goal.loop-invocation-preserved
loop-invocation-preserved g c =
    one_more (ServedBy g.C.ClassifyRetry.says (record { names = g.I.Intercept.names; hooks = g.I.Intercept.hooks; runs = g.I.Intercept.runs; with_bucket = g.I.TakeOffer.with_bucket; with_verdict = g.I.TakeOffer.with_verdict }))
    c.args.set.now c.loop-invocation.set c.tally_one.new.set c.loop-invocation.yielded c.in-Some.invocation c.loop-invocation.tally c.in_ok-tally.tally c.loop-invocation.invariant c.in_ok-tally.ensures

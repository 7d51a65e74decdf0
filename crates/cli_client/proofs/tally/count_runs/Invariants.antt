use Rattle.cli_client_runs.specs.Means.{ServedBy}
use Rattle.cli_client.proofs.Tallied.{TalliedSo}
use Rattle.cli_client.proofs.tally.count_runs.Given as goal

-- those before this one were made and counted
abbrev pub invariant-loop-invocation : goal.invariant-loop-invocation
invariant-loop-invocation g l = TalliedSo (ServedBy g.C.ClassifyRetry.says (record { names = g.I.Intercept.names; hooks = g.I.Intercept.hooks; runs = g.I.Intercept.runs; with_bucket = g.I.TakeOffer.with_bucket; with_verdict = g.I.TakeOffer.with_verdict })) l.fn.set l.yielded l.tally l.set

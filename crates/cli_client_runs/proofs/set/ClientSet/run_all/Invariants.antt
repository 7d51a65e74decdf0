use Rattle.cli_client_runs.specs.Means.{ServedBy}
use Rattle.cli_client_runs.proofs.Running.{RanSo}
use Rattle.cli_client_runs.proofs.set.ClientSet.run_all.Given as goal

-- those before this one were made and printed
abbrev pub invariant-loop-invocation : goal.invariant-loop-invocation
invariant-loop-invocation g l = RanSo (ServedBy g.C.ClassifyRetry.says (record { names = g.I.Intercept.names; hooks = g.I.Intercept.hooks; runs = g.I.Intercept.runs; with_bucket = g.I.TakeOffer.with_bucket; with_verdict = g.I.TakeOffer.with_verdict })) l.fn.self l.fn.out.items l.yielded l.number l.self l.out.items l.outcome

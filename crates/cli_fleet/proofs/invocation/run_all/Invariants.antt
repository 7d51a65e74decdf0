use Rattle.retry_quota.specs.Calls.{limiters_by}
use Rattle.cli_fleet.proofs.Running.{RanSo}
use Rattle.cli_fleet.specs.Means.{world_means}
use Rattle.cli_fleet.proofs.invocation.run_all.Given as goal

-- those before this one were made and printed
abbrev pub invariant-loop-invocation : goal.invariant-loop-invocation
invariant-loop-invocation g l = RanSo (world_means (record { meaning = g.Q.Quota.meaning; permit_bucket = g.Q.Quota.permit_bucket; permit_amount = g.Q.Quota.permit_amount; limiters = limiters_by g.Q.Limiter.Limiter.at g.Q.Limiter.Limiter.after_acquire g.Q.Limiter.Limiter.reply_to g.Q.Limiter.Limiter.after_update }) g.C.ClassifyRetry.says (record { names = g.I.Intercept.names; hooks = g.I.Intercept.hooks; runs = g.I.Intercept.runs; with_bucket = g.I.TakeOffer.with_bucket; with_verdict = g.I.TakeOffer.with_verdict })) l.fn.target.identities l.fn.world.parts l.fn.out.items l.yielded l.number l.world.parts l.out.items l.outcome

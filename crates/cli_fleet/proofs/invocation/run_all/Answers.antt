use Rattle.retry_quota.specs.Calls.{limiters_by}
use Rattle.cli_fleet.proofs.Running.{none_ran, one_more}
use Rattle.cli_fleet.specs.Means.{world_means}
use Rattle.cli_fleet.proofs.invocation.run_all.Goals as goal

pub loop-invocation-init : goal.loop-invocation-init
loop-invocation-init g c = none_ran (world_means (record { meaning = g.Q.Quota.meaning; permit_bucket = g.Q.Quota.permit_bucket; permit_amount = g.Q.Quota.permit_amount; limiters = limiters_by g.Q.Limiter.Limiter.at g.Q.Limiter.Limiter.after_acquire g.Q.Limiter.Limiter.reply_to g.Q.Limiter.Limiter.after_update }) g.C.ClassifyRetry.says (record { names = g.I.Intercept.names; hooks = g.I.Intercept.hooks; runs = g.I.Intercept.runs; with_bucket = g.I.TakeOffer.with_bucket; with_verdict = g.I.TakeOffer.with_verdict })) c.args.target.now.identities c.args.world.now.parts c.args.out.now.items

pub loop-invocation-preserved : goal.loop-invocation-preserved
loop-invocation-preserved g c =
    one_more (world_means (record { meaning = g.Q.Quota.meaning; permit_bucket = g.Q.Quota.permit_bucket; permit_amount = g.Q.Quota.permit_amount; limiters = limiters_by g.Q.Limiter.Limiter.at g.Q.Limiter.Limiter.after_acquire g.Q.Limiter.Limiter.reply_to g.Q.Limiter.Limiter.after_update }) g.C.ClassifyRetry.says (record { names = g.I.Intercept.names; hooks = g.I.Intercept.hooks; runs = g.I.Intercept.runs; with_bucket = g.I.TakeOffer.with_bucket; with_verdict = g.I.TakeOffer.with_verdict })) c.args.target.now.identities
    c.args.world.now.parts c.loop-invocation.world.parts c.run_one.new.world.parts c.args.out.now.items c.loop-invocation.out.items c.run_one.new.out.items
    c.loop-invocation.yielded c.loop-invocation.number c.in_ok-number.number c.loop-invocation.outcome c.in_ok-run_one.field-0 c.in-Some.invocation
    c.in_ok-number.ensures c.loop-invocation.invariant c.in_ok-run_one.ensures

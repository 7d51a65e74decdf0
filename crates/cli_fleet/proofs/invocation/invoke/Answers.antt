use Rattle.std.proofs.Common.{◌∙◌, ap, refl, subst}
use Rattle.cli_client_runs.proofs.Invoked.{ended_whole, served_whole}
use Rattle.cli_client_runs.specs.Invoking.{begun, head_by}
use Rattle.client_components.specs.Serving.{Served}
use Rattle.retry_quota.specs.Calls.{limiters_by}
use Rattle.cli_fleet.specs.Means.{ServedOver, world_means}
use Rattle.cli_fleet.proofs.invocation.invoke.Goals as goal

pub returns : goal.returns
returns g c =
    let means = (world_means (record { meaning = g.Q.Quota.meaning; permit_bucket = g.Q.Quota.permit_bucket; permit_amount = g.Q.Quota.permit_amount; limiters = limiters_by g.Q.Limiter.Limiter.at g.Q.Limiter.Limiter.after_acquire g.Q.Limiter.Limiter.reply_to g.Q.Limiter.Limiter.after_update }) g.C.ClassifyRetry.says (record { names = g.I.Intercept.names; hooks = g.I.Intercept.hooks; runs = g.I.Intercept.runs; with_bucket = g.I.TakeOffer.with_bucket; with_verdict = g.I.TakeOffer.with_verdict })) in
    let after = c.run_client.new.client in
    let log_is = c.replace-log.ensures.value in
    let begins = c.begin_invocation.ensures ∙ ap (λ i. begun c.args.invocation.responses i c.args.world.now.parts.outside) c.in_ok-identities.ensures.cases in
    let serves = served_whole (ServedOver means) (record { parts = record c.args.world.now.parts { outside = c.begin_invocation.new.self }; log = c.new.result }) after c.new.result after.log c.replace-log.result c.in_ok-ending.ensures.related c.new.ensures log_is refl in
    record {
      served = after.parts;
      serves = subst (λ o. Served means (record c.args.world.now.parts { outside = o }) c.replace-log.result after.parts) begins serves;
      rests = c.end_open.ensures;
      ends = ended_whole c.head_of-head.result (head_by c.args.invocation) c.new.result after.log c.replace-log.result c.in_ok-ending.ending c.head_of-head.ensures c.new.ensures log_is c.in_ok-ending.ensures.ends;
    }

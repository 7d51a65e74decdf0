use Rattle.std.proofs.Common.{◌≡◌, ◌∙◌, ap, inl, inr, refl, subst, sym}
use Rattle.cli_client_runs.proofs.Invoked.{at_err, ended_whole, served_whole}
use Rattle.cli_client_runs.specs.Invoking.{begun, head_by}
use Rattle.cli_client_runs.specs.Means.{ServedBy}
use Rattle.client_components.specs.Resting.{Exchanges}
use Rattle.outside_scripted.specs.Makes.{Makes}
use Rattle.cli_client_runs.proofs.invocation.invoke.Goals as goal

pub returns-in-Ok-clause-made : goal.returns-in-Ok-clause-made
returns-in-Ok-clause-made g c =
    let log_is = c.replace-log.ensures.value ∙ c.swap_parts-2.ensures.log in
    let empty = c.swap_parts.ensures.log ∙ c.in_ok-empty_log.ensures in
    let begins = c.begin_invocation.ensures ∙ ap (λ i. begun c.args.invocation.responses i c.args.outside.now) c.in_ok-clone.ensures.cases in
    record {
      entered = c.swap_parts.new.self;
      served = c.run_over-ran.new.world;
      own_outside = c.swap_parts.new.outside;
      own_quota = c.swap_parts.new.quota;
      enters = subst (λ o. Exchanges Makes c.args.client.now.world.parts o c.args.quota.now c.swap_parts.new.self.parts c.swap_parts.new.outside c.swap_parts.new.quota) begins c.swap_parts.ensures.parts;
      serves = served_whole (ServedBy g.C.ClassifyRetry.says (record { names = g.I.Intercept.names; hooks = g.I.Intercept.hooks; runs = g.I.Intercept.runs; with_bucket = g.I.TakeOffer.with_bucket; with_verdict = g.I.TakeOffer.with_verdict }))
          c.swap_parts.new.self c.run_over-ran.new.world c.swap_parts.new.self.log c.run_over-ran.new.world.log c.replace-log.result (rw c.in-Ok.is at c.run_over-ran.ensures.related) empty log_is refl;
      leaves = c.swap_parts-2.ensures.parts;
      ends = ended_whole c.head_of-head.result (head_by c.args.invocation) c.swap_parts.new.self.log c.run_over-ran.new.world.log c.replace-log.result c.in-Ok.ending c.head_of-head.ensures empty log_is (rw c.in-Ok.is at c.run_over-ran.ensures.ends);
      others = refl;
    }

pub returns-clause-lost : goal.returns-clause-lost
returns-clause-lost g c =
    let begins = c.begin_invocation.ensures ∙ ap (λ i. begun c.args.invocation.responses i c.args.outside.now) c.in_ok-clone.ensures.cases in
    inr (record {
      entered = c.swap_parts.new.self;
      stopped = c.run_over-ran.new.world;
      own_outside = c.swap_parts.new.outside;
      own_quota = c.swap_parts.new.quota;
      enters = subst (λ o. Exchanges Makes c.args.client.now.world.parts o c.args.quota.now c.swap_parts.new.self.parts c.swap_parts.new.outside c.swap_parts.new.quota) begins c.swap_parts.ensures.parts;
      leaves = c.swap_parts-2.ensures.parts;
      others = refl;
    })

pub returns-in_err-clone-clause-lost : goal.returns-in_err-clone-clause-lost
returns-in_err-clone-clause-lost g c = at_err _ _ (inl (refl, refl, inl refl))

pub returns-in_err-empty_log-clause-lost : goal.returns-in_err-empty_log-clause-lost
returns-in_err-empty_log-clause-lost g c =
    let begins = c.begin_invocation.ensures ∙ ap (λ i. begun c.args.invocation.responses i c.args.outside.now) c.in_ok-clone.ensures.cases in
    at_err _ _ (inl (refl, refl, inr begins))

use Rattle.std.proofs.Common.{◌≡◌, ◌∙◌, [], ap, refl, subst, sym}
use Rattle.json_print.specs.Endings.{Ends}
use Rattle.cli_client_runs.specs.Invoking.{begun, head_by}
use Rattle.cli_client_runs.specs.Means.{ServedBy}
use Rattle.cli_client_runs.specs.Noted.{Noted}
use Rattle.client_components.specs.Resting.{Exchanges}
use Rattle.outside_scripted.specs.Makes.{Makes}
use Rattle.cli_client_runs.proofs.invocation.invoke_noting.Goals as goal

pub returns : goal.returns
returns g c =
    let log_is = c.replace-log.ensures.value ∙ c.swap_parts-2.ensures.log in
    let begins = c.begin_invocation.ensures ∙ ap (λ i. begun c.args.invocation.responses i c.args.outside.now) c.in_ok-clone.ensures.cases in
    let relates = ServedBy g.C.ClassifyRetry.says (record { names = g.I.Intercept.names; hooks = g.I.Intercept.hooks; runs = g.I.Intercept.runs; with_bucket = g.I.TakeOffer.with_bucket; with_verdict = g.I.TakeOffer.with_verdict }) in
    let noted = subst (λ l. Noted relates (λ w. w.parts.outside.moment) c.swap_parts.new.self c.args.moments l c.in_ok-ran.ran.world c.in_ok-ran.ran.moments) (sym log_is) c.in_ok-ran.ensures.noted in
    record {
      invoked = record {
        entered = c.swap_parts.new.self;
        served = c.in_ok-ran.ran.world;
        own_outside = c.swap_parts.new.outside;
        own_quota = c.swap_parts.new.quota;
        enters = subst (λ o. Exchanges Makes c.args.client.world.parts o c.args.quota.now c.swap_parts.new.self.parts c.swap_parts.new.outside c.swap_parts.new.quota) begins c.swap_parts.ensures.parts;
        serves = noted.served;
        leaves = c.swap_parts-2.ensures.parts;
        ends = subst (λ h. Ends h [] c.replace-log.result c.in_ok-ran.ran.ending) c.head_of-head.ensures (subst (λ l. Ends c.head_of-head.result [] l c.in_ok-ran.ran.ending) (sym log_is) c.in_ok-ran.ensures.ends);
        others = refl;
      };
      noted = noted;
    }

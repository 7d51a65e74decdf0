use Rattle.std.proofs.Common.{ap, ◌∙◌}
use Rattle.smithy_base.proofs.intercept.box_overrides.Goals as goal

pub returns : goal.returns
returns g c = c.overrides.ensures ∙ ap (λ p. (g.dyn-1.0.entry p.0).1.hooks p.1 c.args.hook) c.as_ref.ensures.1

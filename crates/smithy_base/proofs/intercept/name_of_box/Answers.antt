use Rattle.std.proofs.Common.{ap, ◌∙◌}
use Rattle.smithy_base.proofs.intercept.name_of_box.Goals as goal

pub returns : goal.returns
returns g c = c.name.ensures ∙ ap (λ p. (g.dyn-1.0.entry p.0).1.names p.1) c.as_ref.ensures.1

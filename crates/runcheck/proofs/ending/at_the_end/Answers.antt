use Rattle.std.proofs.Common.{Some, ap, sym, ◌∙◌}
use Rattle.runcheck.proofs.Endings.{output_ended}
use Rattle.runcheck.proofs.ending.at_the_end.Goals as goal

pub returns-in-Some-Output : goal.returns-in-Some-Output
returns-in-Some-Output c = output_ended c.args.head.now c.args.context c.in-Some-Output.output c.of.result (sym c.in_ok-outcome.ensures.outcome ∙ c.in-Some-Output.is ∙ ap Some c.in-Some-Output.field-0-is) c.of.ensures

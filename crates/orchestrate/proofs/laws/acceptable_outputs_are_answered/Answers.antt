use Rattle.orchestrate.proofs.Completeness.{output_given}
use Rattle.orchestrate.proofs.laws.acceptable_outputs_are_answered.Goals as goal

pub returns : goal.returns
returns g c = output_given g.O.Wire.accepts g.O.Wire.reads_as g.E.Wire.accepts g.E.Wire.reads_as

use Rattle.orchestrate.proofs.Determined.{inputs_determined}
use Rattle.orchestrate.proofs.laws.an_operations_answers_are_determined.Goals as goal

pub returns : goal.returns
returns g c = inputs_determined g.I.Wire.accepts g.I.Wire.reads_as g.O.Wire.accepts g.O.Wire.reads_as g.E.Wire.accepts g.E.Wire.reads_as g.met.O.Wire.one_value g.met.E.Wire.one_value

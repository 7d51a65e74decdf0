use Rattle.run_grammar.proofs.ConfigureLaw.{configurations_end}
use Rattle.run_grammar.proofs.laws.configurations_end.Goals as goal

pub returns : goal.returns
returns c = configurations_end

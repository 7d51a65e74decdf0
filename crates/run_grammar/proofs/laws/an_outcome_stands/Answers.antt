use Rattle.run_grammar.proofs.OutcomeProofs.{outcome_stands}
use Rattle.run_grammar.proofs.laws.an_outcome_stands.Goals as goal

pub returns : goal.returns
returns c = outcome_stands

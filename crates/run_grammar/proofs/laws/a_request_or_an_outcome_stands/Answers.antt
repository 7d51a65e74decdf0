use Rattle.run_grammar.proofs.RequestProofs.{request_or_outcome_stands}
use Rattle.run_grammar.proofs.laws.a_request_or_an_outcome_stands.Goals as goal

pub returns : goal.returns
returns c = request_or_outcome_stands

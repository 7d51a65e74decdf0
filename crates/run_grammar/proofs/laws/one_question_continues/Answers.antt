use Rattle.run_grammar.proofs.TheLaws.{one_question_law}
use Rattle.run_grammar.proofs.laws.one_question_continues.Goals as goal

pub returns : goal.returns
returns c = one_question_law

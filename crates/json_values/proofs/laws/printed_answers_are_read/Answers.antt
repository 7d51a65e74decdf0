use Rattle.json_values.proofs.PrintedAnswers.{answer_read}
use Rattle.json_values.proofs.laws.printed_answers_are_read.Goals as goal

pub returns : goal.returns
returns c = answer_read

use Rattle.run_grammar.proofs.TheLaws.{goes_on_law, some_answer_fits}
use Rattle.run_grammar.proofs.laws.a_begun_list_goes_on.Goals as goal

pub returns : goal.returns
returns c = record { goes_on = goes_on_law; answerable = some_answer_fits }

use Rattle.run_grammar.proofs.TheLaws.{no_prefix_law}
use Rattle.run_grammar.proofs.laws.no_whole_list_is_a_prefix.Goals as goal

pub returns : goal.returns
returns c = no_prefix_law

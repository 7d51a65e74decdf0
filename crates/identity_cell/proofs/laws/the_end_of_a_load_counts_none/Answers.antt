use Rattle.identity_cell.proofs.CountLemmas.{end_counts}
use Rattle.identity_cell.proofs.laws.the_end_of_a_load_counts_none.Goals as goal

pub returns : goal.returns
returns c = end_counts

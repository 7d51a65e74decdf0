use Rattle.identity_cell.proofs.CountLemmas.{look_counts}
use Rattle.identity_cell.proofs.laws.a_look_counts_the_load_that_it_begins.Goals as goal

pub returns : goal.returns
returns c = look_counts

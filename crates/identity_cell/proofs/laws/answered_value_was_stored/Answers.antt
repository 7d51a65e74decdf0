use Rattle.identity_cell.proofs.RunLemmas.{answer_stored}
use Rattle.identity_cell.proofs.laws.answered_value_was_stored.Goals as goal

pub returns : goal.returns
returns g c = answer_stored g.T.Clone.is_clone

use Rattle.identity_cell.proofs.WaitingLaw.{unexpired}
use Rattle.identity_cell.proofs.laws.an_unexpired_value_begins_no_load.Goals as goal

pub returns : goal.returns
returns g c = unexpired g.T.Clone.is_clone

use Rattle.identity_cell.proofs.Lawful.{dropped_empties}
use Rattle.identity_cell.proofs.laws.dropped_is_empty.Goals as goal

pub returns : goal.returns
returns c = dropped_empties

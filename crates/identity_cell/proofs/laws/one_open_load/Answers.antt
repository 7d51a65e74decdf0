use Rattle.identity_cell.proofs.Lawful.{one_open}
use Rattle.identity_cell.proofs.laws.one_open_load.Goals as goal

pub returns : goal.returns
returns c = one_open

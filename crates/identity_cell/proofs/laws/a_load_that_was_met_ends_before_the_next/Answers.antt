use Rattle.identity_cell.proofs.WaitingLaw.{load_ended}
use Rattle.identity_cell.proofs.laws.a_load_that_was_met_ends_before_the_next.Goals as goal

pub returns : goal.returns
returns c = load_ended

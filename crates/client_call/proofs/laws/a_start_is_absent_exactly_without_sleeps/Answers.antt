use Rattle.client_call.proofs.CauseProofs.{absent_without_sleeps}
use Rattle.client_call.proofs.laws.a_start_is_absent_exactly_without_sleeps.Goals as goal

pub returns : goal.returns
returns c = absent_without_sleeps

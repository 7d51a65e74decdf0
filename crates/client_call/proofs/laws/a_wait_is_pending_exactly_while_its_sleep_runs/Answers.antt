use Rattle.client_call.proofs.CauseProofs.{pending_while_it_runs}
use Rattle.client_call.proofs.laws.a_wait_is_pending_exactly_while_its_sleep_runs.Goals as goal

pub returns : goal.returns
returns c = pending_while_it_runs

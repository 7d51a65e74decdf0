use Rattle.client_call.proofs.CauseProofs.{never_pending}
use Rattle.client_call.proofs.laws.a_load_is_never_pending.Goals as goal

pub returns : goal.returns
returns c = never_pending

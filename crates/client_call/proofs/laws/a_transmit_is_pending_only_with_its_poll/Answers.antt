use Rattle.client_call.proofs.CauseProofs.{pends_with_the_poll}
use Rattle.client_call.proofs.laws.a_transmit_is_pending_only_with_its_poll.Goals as goal

pub returns : goal.returns
returns c = pends_with_the_poll

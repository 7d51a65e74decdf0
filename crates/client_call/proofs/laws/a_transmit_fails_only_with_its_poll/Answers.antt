use Rattle.client_call.proofs.UploadProofs.{uploads_never_stall}
use Rattle.client_call.proofs.laws.a_transmit_fails_only_with_its_poll.Goals as goal

pub returns : goal.returns
returns c = uploads_never_stall

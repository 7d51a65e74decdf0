use Rattle.client_call.proofs.WholeReads.{bodies_are_whole}
use Rattle.client_call.proofs.laws.a_body_is_read_whole.Goals as goal

pub returns : goal.returns
returns c = bodies_are_whole

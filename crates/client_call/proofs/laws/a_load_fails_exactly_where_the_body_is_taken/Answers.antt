use Rattle.client_call.proofs.CauseProofs.{fails_where_taken}
use Rattle.client_call.proofs.laws.a_load_fails_exactly_where_the_body_is_taken.Goals as goal

pub returns : goal.returns
returns c = fails_where_taken

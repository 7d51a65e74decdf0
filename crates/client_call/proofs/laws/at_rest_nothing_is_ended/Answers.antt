use Rattle.client_call.proofs.CauseProofs.{nothing_to_end}
use Rattle.client_call.proofs.laws.at_rest_nothing_is_ended.Goals as goal

pub returns : goal.returns
returns c = nothing_to_end

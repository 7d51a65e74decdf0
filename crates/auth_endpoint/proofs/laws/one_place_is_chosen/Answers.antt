use Rattle.auth_endpoint.proofs.Lawful.{one_place}
use Rattle.auth_endpoint.proofs.laws.one_place_is_chosen.Goals as goal

pub returns : goal.returns
returns c = one_place

use Rattle.auth_endpoint.proofs.Lawful.{one_way}
use Rattle.auth_endpoint.proofs.laws.a_uri_is_applied_in_one_way.Goals as goal

pub returns : goal.returns
returns c = one_way

use Rattle.auth_endpoint.proofs.Lawful.{only_reorders}
use Rattle.auth_endpoint.proofs.laws.a_preference_only_reorders.Goals as goal

pub returns : goal.returns
returns c = only_reorders

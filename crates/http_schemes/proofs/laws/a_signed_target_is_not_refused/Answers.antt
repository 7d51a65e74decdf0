use Rattle.http_schemes.proofs.Lawful.{not_refused}
use Rattle.http_schemes.proofs.laws.a_signed_target_is_not_refused.Goals as goal

pub returns : goal.returns
returns c = not_refused

use Rattle.http_schemes.proofs.Lawful.{stays_signed}
use Rattle.http_schemes.proofs.laws.a_signed_request_stays_signed.Goals as goal

pub returns : goal.returns
returns c = stays_signed

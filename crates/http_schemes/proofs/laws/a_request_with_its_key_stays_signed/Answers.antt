use Rattle.http_schemes.proofs.Lawful.{stays_with_its_key}
use Rattle.http_schemes.proofs.laws.a_request_with_its_key_stays_signed.Goals as goal

pub returns : goal.returns
returns c = stays_with_its_key

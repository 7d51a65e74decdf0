use Rattle.http_schemes.proofs.Lawful.{unreserved_kept}
use Rattle.http_schemes.proofs.laws.unreserved_bytes_are_kept.Goals as goal

pub returns : goal.returns
returns c = unreserved_kept

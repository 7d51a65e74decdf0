use Rattle.http_schemes.proofs.TargetLemmas.{prints_itself}
use Rattle.http_schemes.proofs.laws.a_signed_target_is_printed_as_it_is.Goals as goal

pub returns : goal.returns
returns c = prints_itself

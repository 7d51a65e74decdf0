use Rattle.body_guard.proofs.LengthLemmas.{numeral_visible}
use Rattle.body_guard.proofs.length.read_length.Goals as goal

pub returns-in_default : goal.returns-in_default
returns-in_default c is_length = let no = c.in_default.ensures in let never = no.succeeds.1 (numeral_visible _ is_length.0) in cc

use Rattle.laws_determined.proofs.auth.Signatures.{signs_once}
use Rattle.laws_determined.proofs.auth.signs_are_determined.Goals as goal

pub returns : goal.returns
returns g c = signs_once _ _

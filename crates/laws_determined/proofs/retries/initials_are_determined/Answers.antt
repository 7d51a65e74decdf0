use Rattle.laws_determined.proofs.retries.Retries.{initials}
use Rattle.laws_determined.proofs.retries.initials_are_determined.Goals as goal

pub returns : goal.returns
returns g c = λ steady. initials _ _ _ _ steady

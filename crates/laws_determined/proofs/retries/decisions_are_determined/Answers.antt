use Rattle.laws_determined.proofs.retries.Retries.{decisions}
use Rattle.laws_determined.proofs.retries.decisions_are_determined.Goals as goal

pub returns : goal.returns
returns g c = λ steady. decisions _ _ _ _ steady

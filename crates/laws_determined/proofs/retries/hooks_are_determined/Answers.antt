use Rattle.laws_determined.proofs.retries.Hooked.{hooks}
use Rattle.laws_determined.proofs.retries.hooks_are_determined.Goals as goal

pub returns : goal.returns
returns g c = λ steady. hooks _ _ _ _ _ steady

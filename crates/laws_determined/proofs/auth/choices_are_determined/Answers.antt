use Rattle.laws_determined.proofs.auth.Chosen.{choices}
use Rattle.laws_determined.proofs.auth.choices_are_determined.Goals as goal

pub returns : goal.returns
returns g c = λ steady. choices _ _ _ steady

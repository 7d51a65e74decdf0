use Rattle.laws_determined.proofs.calls.Asked.{bodies}
use Rattle.laws_determined.proofs.calls.bodies_are_determined.Goals as goal

pub returns : goal.returns
returns g c = λ steady. bodies _ steady

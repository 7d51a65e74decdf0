use Rattle.laws_determined.proofs.calls.Asked.{transmits}
use Rattle.laws_determined.proofs.calls.transmits_are_determined.Goals as goal

pub returns : goal.returns
returns g c = λ steady. transmits _ steady

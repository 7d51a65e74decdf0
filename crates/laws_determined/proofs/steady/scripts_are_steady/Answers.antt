use Rattle.laws_determined.proofs.steady.Scripts.{scripts_steady}
use Rattle.laws_determined.proofs.steady.scripts_are_steady.Goals as goal

pub returns : goal.returns
returns c = scripts_steady

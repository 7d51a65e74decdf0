use Rattle.laws_determined.proofs.client.Served.{runs_once}
use Rattle.laws_determined.proofs.client.runs_are_determined.Goals as goal

pub returns : goal.returns
returns g c = runs_once _ _ _ _

use Rattle.laws_determined.proofs.client.Driven.{drives_once}
use Rattle.laws_determined.proofs.client.drives_are_determined.Goals as goal

pub returns : goal.returns
returns g c = drives_once _ _ _ _

use Rattle.laws_determined.proofs.client.Served.{exchanges_once}
use Rattle.laws_determined.proofs.client.exchanges_are_determined.Goals as goal

pub returns : goal.returns
returns g c = exchanges_once _ _ _

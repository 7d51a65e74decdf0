use Rattle.waiter_fleet.proofs.Determined.{runs-determined}
use Rattle.waiter_fleet.proofs.laws.runs_are_determined.Goals as goal

pub returns : goal.returns
returns g c = runs-determined g.W.FleetWorld.does g.W.FleetWorld.waits

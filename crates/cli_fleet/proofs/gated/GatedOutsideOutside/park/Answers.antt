use Rattle.std.proofs.Common.{refl, subst}
use Rattle.outside.specs.Calls.{Park}
use Rattle.cli_fleet.specs.Gated.{Gated, Passes}
use Rattle.cli_fleet.proofs.gated.GatedOutsideOutside.park.Goals as goal

pub returns : goal.returns
returns g c =
    let parked : Gated g.row.G.Denot = record { outside = c.park.new.self; gate = c.self.inside.gate.now; caller = c.self.inside.caller; calls = c.self.inside.calls } in
    subst (λ old. Passes g.G.Gate.passed old Park parked) c.self.view_is
    (record { made = c.park.ensures; counted = refl; same_gate = refl; same_caller = refl })

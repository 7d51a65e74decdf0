use Rattle.orchestrate.specs.Handing.{HandedOn}
use Rattle.run_driver.specs.Driving.{Advances}
use Rattle.run_driver.proofs.DrivingLemmas.{WentPast}
use Rattle.run_driver.proofs.driving.drive_on.Given as goal

-- the run has made so many calls, over which the world's relation is handed on, and it never had to wait
abbrev pub invariant-loop-calls : goal.invariant-loop-calls
invariant-loop-calls g l =
    Advances l.fn.invocation l.invocation (g.W.World.calls l.fn.world) (g.W.World.calls l.world) l.calls
    × HandedOn g.W.World.relates l.fn.world l.world (g.W.World.calls l.fn.world) (g.W.World.calls l.world)
    × WentPast g.W.World.calls g.W.World.relates g.W.Parking.parks l.fn.world l.world

use Rattle.orchestrate.specs.Handing.{HandedOn}
use Rattle.orchestrate.specs.Stands.{Progress}
use Rattle.orchestrate.proofs.execution.run.Given as goal

-- the invocation stands at the list of the calls so far, over which the world's relation is handed on
abbrev pub invariant-loop : goal.invariant-loop
invariant-loop g l =
    Progress l.fn.input l.fn.stop l.invocation (g.W.World.calls l.fn.world) (g.W.World.calls l.world) l.counter
    × HandedOn g.W.World.relates l.fn.world l.world (g.W.World.calls l.fn.world) (g.W.World.calls l.world)

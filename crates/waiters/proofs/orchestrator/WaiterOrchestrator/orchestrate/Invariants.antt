use Rattle.waiters.proofs.Walking.{Along}
use Rattle.waiters.proofs.orchestrator.WaiterOrchestrator.orchestrate.Given as goal

abbrev pub invariant-loop-ending : goal.invariant-loop-ending
invariant-loop-ending g l =
    Along l.self.backoff (goal.F-post g l.self.acceptor) g.T.WaiterTimers.makes (goal.G-post g l.self.operation) g.T.Timers.sleeps
    l.fn.timers l.fn.fuel l.progress l.timers

abbrev pub decreases-loop-ending : goal.decreases-loop-ending
decreases-loop-ending g l = l.progress.fuel

use Rattle.std.proofs.Common.{ℕ}
use Rattle.waiters.specs.Steps.{Spends}
use Rattle.waiters.specs.WalkCalls.{unanswered}
use Rattle.waiters.proofs.asking.answered.Given as goal

abbrev pub invariant-loop-fuel : goal.invariant-loop-fuel
invariant-loop-fuel g l =
    (times : ℕ) × Spends g.T.WaiterTimers.makes (goal.G-post g l.operation) l.fn.timers l.fn.fuel (unanswered l.number times) l.timers l.fuel

abbrev pub decreases-loop-fuel : goal.decreases-loop-fuel
decreases-loop-fuel g l = l.fuel

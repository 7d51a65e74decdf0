use Rattle.std.proofs.Common.{ℕ}
use Rattle.waiters.specs.Steps.{TimersSpend}
use Rattle.waiters.specs.WalkCalls.{unready}
use Rattle.waiters.proofs.asking.slept.Given as goal

abbrev pub invariant-loop-fuel : goal.invariant-loop-fuel
invariant-loop-fuel g l =
    (times : ℕ) × TimersSpend g.T.WaiterTimers.makes l.fn.timers l.fn.fuel (unready l.sleep times) l.timers l.fuel

abbrev pub decreases-loop-fuel : goal.decreases-loop-fuel
decreases-loop-fuel g l = l.fuel

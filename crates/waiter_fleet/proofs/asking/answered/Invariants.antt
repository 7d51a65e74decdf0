use Rattle.std.proofs.Common.{ℕ}
use Rattle.waiter_fleet.specs.Calls.{unanswered}
use Rattle.waiter_fleet.specs.Steps.{Spends}
use Rattle.waiter_fleet.proofs.asking.answered.Given as goal

abbrev pub invariant-loop-fuel : goal.invariant-loop-fuel
invariant-loop-fuel g l =
    (times : ℕ) × Spends g.W.FleetWorld.does l.fn.world l.fn.fuel (unanswered l.waiter times) l.world l.fuel

abbrev pub decreases-loop-fuel : goal.decreases-loop-fuel
decreases-loop-fuel g l = l.fuel

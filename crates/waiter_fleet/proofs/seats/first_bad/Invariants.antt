use Rattle.std.proofs.Common.{◌≡◌, ℕ, ◌<◌, true, Some, slice_get}
use Rattle.waiter_fleet.specs.declared.plan.Plan.{Plan}
use Rattle.waiter_fleet.specs.Plans.{is_good}
use Rattle.waiter_fleet.proofs.seats.first_bad.Given as goal

abbrev pub invariant-loop-waiter : goal.invariant-loop-waiter
invariant-loop-waiter l = (k : ℕ) (one : Plan) → k < l.waiter → slice_get l.plans k ≡ Some one → is_good one ≡ true

use Rattle.std.proofs.Common.{[]}
use Rattle.waiter_fleet.specs.Fleets.{IsScheduled}
use Rattle.waiter_fleet.proofs.running.schedule_of.Given as goal

abbrev pub invariant-loop-waiter : goal.invariant-loop-waiter
invariant-loop-waiter l = IsScheduled l.waiter l.start [] l.schedule

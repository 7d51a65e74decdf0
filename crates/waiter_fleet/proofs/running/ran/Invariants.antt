use Rattle.std.proofs.Common.{◌≡◌, ◌+◌, length, true}
use Rattle.waiter_fleet.specs.Fleets.{GoesFurther}
use Rattle.waiter_fleet.proofs.running.ran.Given as goal

abbrev pub invariant-loop-log : goal.invariant-loop-log
invariant-loop-log g l =
    record {
      goes : GoesFurther g.W.FleetWorld.does (record { plans = l.fn.plans; book = l.fn.bucket; world = l.fn.world; fuel = l.fn.fuel }) l.start
          l.seats.items l.schedule l.log.events.items l.bucket l.world l.log.fuel;
      has_sleep : g.W.Timers.sleeps l.world ≡ true;
    }

abbrev pub decreases-loop-log : goal.decreases-loop-log
decreases-loop-log g l = l.log.fuel + length l.schedule

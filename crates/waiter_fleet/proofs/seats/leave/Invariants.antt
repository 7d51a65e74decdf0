use Rattle.std.proofs.Common.{◌≡◌, ◌++◌, List}
use Rattle.waiter_fleet.specs.declared.event.FleetEvent.{FleetEvent}
use Rattle.waiter_fleet.specs.Events.{in_order}
use Rattle.waiter_fleet.specs.Fleet.{left_over}
use Rattle.waiter_fleet.specs.Fleets.{SayWhoEnded}
use Rattle.waiter_fleet.proofs.seats.leave.Given as goal

abbrev pub invariant-loop-waiter : goal.invariant-loop-waiter
invariant-loop-waiter l =
    (events : List FleetEvent) → SayWhoEnded events l.seats →
    l.log.events.items ≡ l.fn.log.events.items ++ in_order (left_over l.waiter events)

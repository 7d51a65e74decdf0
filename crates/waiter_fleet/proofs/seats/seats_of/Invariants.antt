use Rattle.std.proofs.Common.{◌≡◌, ℕ, [], Some, slice_get, length}
use Rattle.waiter_fleet.specs.declared.seat.Seat.{Seat}
use Rattle.waiter_fleet.specs.Seats.{Seated}
use Rattle.waiter_fleet.proofs.seats.seats_of.Given as goal

abbrev pub invariant-loop-plan : goal.invariant-loop-plan
invariant-loop-plan l =
    record {
      count : length l.seats.items ≡ l.plan-index;
      each : (k : ℕ) (seat : Seat) → slice_get l.seats.items k ≡ Some seat → Seated l.plans [] k seat;
    }

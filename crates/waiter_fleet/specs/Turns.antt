-- What a turn of a waiter comes to.
use Rattle.std.specs.Prelude.{◌≡◌, ℕ, ◌<◌, ◌≤◌, true, List}
use Rattle.retry_quota.specs.Book.{Book}
use Rattle.waiter_fleet.specs.declared.event.FleetEvent.{FleetEvent}
use Rattle.waiter_fleet.specs.declared.seat.Seat.{Seat}
use Rattle.waiter_fleet.specs.declared.turned.Turned.{Turned}
use Rattle.waiter_fleet.specs.declared.turned.Turned.TheVariants.{Sleeps, Ended, Spent}
use Rattle.waiter_fleet.specs.Acts.{Act}
use Rattle.waiter_fleet.specs.Calls.{FleetCall}
use Rattle.waiter_fleet.specs.Seats.{Breaks, Rests, TurnsOver}
use Rattle.waiter_fleet.specs.Steps.{Origin}

module _ {T : Type 0} (does : T → FleetCall → T → Type 0) (o : Origin T) (start waiter : ℕ) (acts : List Act) where
  -- what a turn of the waiter comes to: it sleeps until a moment, it ended, or the fuel is spent
  abbrev pub TurnEnds : Seat → Seat → List FleetEvent → Book → T → ℕ → Turned → Type 0
  TurnEnds was is events book world fuel (Sleeps moment) =
      Rests does o start waiter acts moment is events book world fuel
  TurnEnds was is events book world fuel Ended = TurnsOver does o start waiter acts true is events book world fuel
  TurnEnds was is events book world fuel Spent = Breaks does o start waiter acts events book world fuel × (is ≡ was)

-- a turn with a poll spends some fuel
abbrev pub TurnSpends : ℕ → ℕ → Turned → Type 0
TurnSpends old new (Sleeps moment) = new < old
TurnSpends old new Ended = new ≤ old
TurnSpends old new Spent = new ≤ old

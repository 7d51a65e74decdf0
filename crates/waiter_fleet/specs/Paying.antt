-- What waiting for a waiter's next poll and paying for it come to.
use Rattle.std.specs.Prelude.{◌≡◌, ℕ, ◌+◌, true, List, ◌∷◌, Option, length}
use Rattle.retry_quota.specs.Book.{Book}
use Rattle.waiter_fleet.specs.declared.event.FleetEnd.TheVariants as end
use Rattle.waiter_fleet.specs.declared.event.FleetEvent.{FleetEvent}
use Rattle.waiter_fleet.specs.declared.event.FleetEvent.TheVariants.{Charged, Refused, End}
use Rattle.waiter_fleet.specs.declared.paid.Paid.{Paid}
use Rattle.waiter_fleet.specs.declared.paid.Paid.TheVariants as paid
use Rattle.waiter_fleet.specs.declared.seat.Seat.{Seat}
use Rattle.waiter_fleet.specs.Acts.{Act, events_of, open_sleep}
use Rattle.waiter_fleet.specs.Calls.{FleetCall}
use Rattle.waiter_fleet.specs.Events.{charges, polls}
use Rattle.waiter_fleet.specs.Fleet.{IsTurnOf, is_settled}
use Rattle.waiter_fleet.specs.Seats.{IsReady}
use Rattle.waiter_fleet.specs.Steps.{Origin, RunsOut, Stands}

-- it is the turn of a waiter whose next poll isn't paid for, with its open sleep
pub record AsksFor {T : Type 0} (o : Origin T) (start : ℕ) (acts : List Act) (waiter : ℕ)
    (sleep : Option ℕ) : Type 0 where
  pub turn : IsTurnOf (length o.plans) start (events_of acts) waiter
  pub settled : is_settled (events_of acts) ≡ true
  pub unpaid : charges waiter (events_of acts) + 1 ≡ polls waiter (events_of acts)
  pub is_open : sleep ≡ open_sleep waiter acts

module _ {T : Type 0} (does : T → FleetCall → T → Type 0) (o : Origin T) (start : ℕ) (acts : List Act)
    (waiter : ℕ) where
  -- the bucket granted the cost
  pub record IsCharged (events : List FleetEvent) (book : Book) (world : T) (fuel : ℕ) : Type 0 where
    pub times : ℕ
    pub moment : ℕ
    pub stands : Stands does o start (record { event = Charged waiter moment; times = times; sleep = 0 } ∷ acts) events
        book world fuel

  -- it refused, and the waiter ended
  pub record IsRefused (events : List FleetEvent) (book : Book) (world : T) (fuel : ℕ) : Type 0 where
    pub times : ℕ
    pub moment : ℕ
    pub cost : ℕ
    pub stands : Stands does o start (record { event = End waiter (end.NoQuota cost); times = 0; sleep = 0 }
        ∷ record { event = Refused waiter cost moment; times = times; sleep = 0 } ∷ acts) events book world fuel

  -- what paying for the waiter's next poll comes to; the fuel may be spent before the bucket is asked
  abbrev pub PayEnds : List FleetEvent → Book → T → ℕ → Paid → Type 0
  PayEnds events book world fuel paid.Charged = IsCharged events book world fuel
  PayEnds events book world fuel paid.Refused = IsRefused events book world fuel
  PayEnds events book world fuel paid.Spent = RunsOut does o start acts events book world fuel

  -- how a waiter comes to its next poll: it is paid for, the bucket refused it, or the fuel is spent
  abbrev pub ReadyEnds : Seat → List FleetEvent → Book → T → ℕ → Paid → Type 0
  ReadyEnds seat events book world fuel paid.Charged = IsReady does o start waiter acts seat events book world fuel
  ReadyEnds seat events book world fuel paid.Refused = IsRefused events book world fuel
  ReadyEnds seat events book world fuel paid.Spent = RunsOut does o start acts events book world fuel

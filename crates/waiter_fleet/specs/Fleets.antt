-- How far a fleet has come, with the seats of its waiters and when they are due.
use Rattle.std.specs.Prelude.{◌≡◌, ◌≢◌, ℕ, ◌-◌, ◌<◌, ◌⊎◌, Bool, true, false, List, [], ◌++◌, Some, slice_get, length}
use Rattle.retry_quota.specs.Book.{Book}
use Rattle.waiter_fleet.specs.declared.event.FleetEvent.{FleetEvent}
use Rattle.waiter_fleet.specs.declared.plan.Plan.{Plan}
use Rattle.waiter_fleet.specs.declared.schedule.Due.{Due}
use Rattle.waiter_fleet.specs.declared.seat.Seat.{Seat}
use Rattle.waiter_fleet.specs.Acts.{Act, calls_of, events_of}
use Rattle.waiter_fleet.specs.Calls.{FleetCall}
use Rattle.waiter_fleet.specs.Events.{charges, due, ended, in_order, polls}
use Rattle.waiter_fleet.specs.Fleet.{IsTurnOf, is_settled}
use Rattle.waiter_fleet.specs.Schedules.{Has}
use Rattle.waiter_fleet.specs.Seats.{Seated}
use Rattle.waiter_fleet.specs.Steps.{Kept, Origin, Rest, Stands}

-- each waiter has its seat
pub record AreSeated (plans : List Plan) (acts : List Act) (seats : List Seat) : Type 0 where
  pub count : length seats ≡ length plans
  pub each : (k : ℕ) (seat : Seat) → slice_get seats k ≡ Some seat → Seated plans acts k seat

-- the seats say which waiters ended
abbrev pub SayWhoEnded : List FleetEvent → List Seat → Type 0
SayWhoEnded events seats = (k : ℕ) (seat : Seat) → slice_get seats k ≡ Some seat → seat.ended ≡ ended k events

-- exactly the waiters that haven't ended are due, each at its moment
pub record IsScheduled (count start : ℕ) (events : List FleetEvent) (dues : List Due) : Type 0 where
  pub within : (one : Due) → Has dues one → one.waiter < count
  pub waits : (one : Due) → Has dues one → ended one.waiter events ≡ false
  pub at : (one : Due) → Has dues one → one.moment ≡ due start one.waiter events
  pub each : (waiter : ℕ) → waiter < count → ended waiter events ≡ false →
      Has dues (record { moment = due start waiter events; waiter = waiter })

-- this was due first, and was taken out
pub record Popped (count start : ℕ) (events : List FleetEvent) (one : Due) (dues : List Due) : Type 0 where
  pub turn : IsTurnOf count start events one.waiter
  pub within : (other : Due) → Has dues other → other.waiter < count
  pub apart : (other : Due) → Has dues other → other.waiter ≢ one.waiter
  pub waits : (other : Due) → Has dues other → ended other.waiter events ≡ false
  pub at : (other : Due) → Has dues other → other.moment ≡ due start other.waiter events
  pub each : (waiter : ℕ) → waiter < count → waiter ≢ one.waiter → ended waiter events ≡ false →
      Has dues (record { moment = due start waiter events; waiter = waiter })

module _ {T : Type 0} (does : T → FleetCall → T → Type 0) (o : Origin T) (start : ℕ) where
  -- the fleet stands between two turns
  pub record Between (acts : List Act) (seats : List Seat) (events : List FleetEvent) (book : Book) (world : T)
      (fuel : ℕ) : Type 0 where
    pub stands : Stands does o start acts events book world fuel
    pub seated : AreSeated o.plans acts seats
    pub paid : (waiter : ℕ) → charges waiter (events_of acts) ≡ polls waiter (events_of acts) - 1
    pub settled : is_settled (events_of acts) ≡ true

  -- it has no more turns: all waiters ended, or the fuel is spent
  pub record Over (seats : List Seat) (events : List FleetEvent) (book : Book) (world : T) (fuel : ℕ) : Type 0 where
    pub acts : List Act
    pub rest : List FleetCall
    pub is_rest : (rest ≡ []) ⊎ Rest does o start acts rest
    pub kept : Kept does o start acts (calls_of acts ++ rest) book world fuel
    pub logged : events ≡ in_order (events_of acts)
    pub settled : is_settled (events_of acts) ≡ true
    pub count : length seats ≡ length o.plans
    pub says : SayWhoEnded (events_of acts) seats
    pub why : ((waiter : ℕ) → waiter < length o.plans → ended waiter (events_of acts) ≡ true) ⊎ (fuel ≡ 0)

  -- the turn of what was due first is over, and there may be another
  pub record GoesFurther (seats : List Seat) (dues : List Due) (events : List FleetEvent) (book : Book) (world : T)
      (fuel : ℕ) : Type 0 where
    pub acts : List Act
    pub between : Between acts seats events book world fuel
    pub scheduled : IsScheduled (length o.plans) start (events_of acts) dues

  -- what a step of the fleet comes to: there may be another, or the fleet is over
  abbrev pub Stepped : List Seat → List Due → List FleetEvent → Book → T → ℕ → Bool → Type 0
  Stepped seats dues events book world fuel true = GoesFurther seats dues events book world fuel
  Stepped seats dues events book world fuel false = Over seats events book world fuel

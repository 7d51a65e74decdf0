-- What a fleet keeps of each of its waiters.
use Rattle.std.specs.Prelude.{◌≡◌, ℕ, ◌-◌, Bool, true, false, List, ◌∷◌, Option, Some, MatchOption, slice_get}
use Rattle.waiters.specs.declared.backoff.Backoff.{Backoff}
use Rattle.retry_quota.specs.Book.{Book}
use Rattle.smithy_types.specs.declared.acceptor.AcceptorState.{AcceptorState}
use Rattle.waiter_fleet.specs.declared.event.FleetEvent.{FleetEvent}
use Rattle.waiter_fleet.specs.declared.event.FleetEvent.TheVariants.{Poll}
use Rattle.waiter_fleet.specs.declared.event.Seen.{Seen}
use Rattle.waiter_fleet.specs.declared.found.Found.{Found}
use Rattle.waiter_fleet.specs.declared.plan.Plan.{Plan}
use Rattle.waiter_fleet.specs.declared.seat.Seat.{Seat}
use Rattle.waiter_fleet.specs.Acts.{Act, events_of, open_sleep}
use Rattle.waiter_fleet.specs.Calls.{FleetCall}
use Rattle.waiter_fleet.specs.Events.{charges, due, ended, polls, zero_used}
use Rattle.waiter_fleet.specs.Fleet.{EndsBy, MayPoll, is_settled, number_behind, verdict_of}
use Rattle.waiter_fleet.specs.Steps.{KeepsOthers, Origin, RunsOut, Stands, StaysOn}

-- a plan with these delays
abbrev pub plan_of : Backoff → Plan
plan_of backoff = record { min_delay = backoff.min_delay; max_delay = backoff.max_delay; max_wait = backoff.max_wait }

-- the seat is that of a waiter with so many polls, whose sleep stands open, which may have ended
pub record SeatIs (plans : List Plan) (waiter count : ℕ) (used : Bool) (sleep : Option ℕ) (over : Bool)
    (seat : Seat) : Type 0 where
  pub planned : slice_get plans waiter ≡ Some (plan_of seat.backoff)
  pub numbered : seat.number ≡ number_behind count
  pub zero : seat.zero_used ≡ used
  pub sleeps : seat.sleep ≡ sleep
  pub ends : seat.ended ≡ over

-- the seat is that of the waiter behind these acts
abbrev pub Seated : List Plan → List Act → ℕ → Seat → Type 0
Seated plans acts waiter seat =
    SeatIs plans waiter (polls waiter (events_of acts)) (zero_used waiter (events_of acts)) (open_sleep waiter acts)
    (ended waiter (events_of acts)) seat

module _ {T : Type 0} (does : T → FleetCall → T → Type 0) (o : Origin T) (start waiter : ℕ) where
  -- a further poll was answered
  pub record Polled (acts : List Act) (seat : Seat) (found : Found) (events : List FleetEvent) (book : Book) (world : T)
      (fuel : ℕ) : Type 0 where
    pub times : ℕ
    pub seen : Seen
    pub state : AcceptorState
    pub stands : Stands does o start
        (record { event = Poll waiter seat.number found.moment seen state; times = times; sleep = 0 } ∷ acts) events
        book world fuel
    pub elapsed : found.elapsed ≡ found.moment - start
    pub ending : MatchOption found.end
        (StaysOn (plan_of seat.backoff) seat.zero_used found.elapsed (verdict_of seen state))
        (EndsBy (plan_of seat.backoff) seat.zero_used seat.number found.elapsed (verdict_of seen state))

  -- the waiter may be polled, and its seat is as it was
  pub record IsReady (old : List Act) (seat : Seat) (events : List FleetEvent) (book : Book) (world : T)
      (fuel : ℕ) : Type 0 where
    pub acts : List Act
    pub stands : Stands does o start acts events book world fuel
    pub may : MayPoll o.plans o.book start (events_of acts) waiter seat.number
    pub seated : Seated o.plans acts waiter seat
    pub others : KeepsOthers start waiter old acts

  -- the waiter's turn is over, and whether the waiter ended
  pub record TurnsOver (old : List Act) (over : Bool) (seat : Seat) (events : List FleetEvent) (book : Book) (world : T)
      (fuel : ℕ) : Type 0 where
    pub acts : List Act
    pub stands : Stands does o start acts events book world fuel
    pub seated : Seated o.plans acts waiter seat
    pub is_over : ended waiter (events_of acts) ≡ over
    pub paid : charges waiter (events_of acts) ≡ polls waiter (events_of acts) - 1
    pub settled : is_settled (events_of acts) ≡ true
    pub others : KeepsOthers start waiter old acts

  -- the waiter sleeps until it is due at this moment
  pub record Rests (old : List Act) (moment : ℕ) (seat : Seat) (events : List FleetEvent) (book : Book) (world : T)
      (fuel : ℕ) : Type 0 where
    pub turned : TurnsOver old false seat events book world fuel
    pub is_due : moment ≡ due start waiter (events_of turned.acts)

  -- the fuel was spent in the waiter's turn
  pub record Breaks (old : List Act) (events : List FleetEvent) (book : Book) (world : T) (fuel : ℕ) : Type 0 where
    pub acts : List Act
    pub runs_out : RunsOut does o start acts events book world fuel
    pub waits : ended waiter (events_of acts) ≡ ended waiter (events_of old)
    pub others : KeepsOthers start waiter old acts

-- The parts of a turn, as the fleet makes them.
use Rattle.std.specs.Prelude.{◌≡◌, ◌≢◌, ℕ, ◌+◌, ◌≤◌, Bool, true, false, List, [], ◌∷◌, ◌++◌, Option, None, Some, Ok}
use Rattle.std.specs.Prelude.{Err, length}
use Rattle.smithy_types.specs.Chain.{Chained}
use Rattle.smithy_types.specs.declared.kinds.ErrorKind.TheVariants.{ServerError}
use Rattle.smithy_types.specs.declared.timers.TimersCall.TheVariants.{Now}
use Rattle.waiters.specs.Walk.{Verdict, goes_on}
use Rattle.retry_quota.specs.Book.{Book, cost_of}
use Rattle.retry_quota.specs.History.{Acquire, Forget, after}
use Rattle.waiter_fleet.specs.declared.event.FleetEvent.{FleetEvent}
use Rattle.waiter_fleet.specs.declared.plan.Plan.{Plan}
use Rattle.waiter_fleet.specs.Acts.{Act, AreFunded, calls_of, events_of, open_sleep}
use Rattle.waiter_fleet.specs.Calls.{Answer, FleetCall, asks, awaited, polled, timed, unanswered, unready}
use Rattle.waiter_fleet.specs.Events.{book_after, charges, ended, in_order, last_moment, last_sleep, polls, zero_used}
use Rattle.waiter_fleet.specs.Fleet.{IsFleet, IsTurnOf, is_settled}

-- the asks of one poll, which may have no answer before the fuel is spent
abbrev pub ask_calls : (waiter times : ℕ) → Answer → List FleetCall
ask_calls waiter times (Ok (Some found)) = unanswered waiter times ++ polled waiter (Ok (Some found)) ∷ []
ask_calls waiter times (Ok None) = unanswered waiter times
ask_calls waiter times (Err refused) = unanswered waiter times ++ polled waiter (Err refused) ∷ []

-- the asks of a sleep, which may not be over before the fuel is spent
abbrev pub wake_calls : Option ℕ → ℕ → Bool → List FleetCall
wake_calls sleep times true = awaited sleep times
wake_calls None times false = []
wake_calls (Some sleep) times false = unready sleep times

-- the bucket after an ask at this second that was granted or wasn't
abbrev pub asked : ℕ → Bool → Book → Book
asked second true book = after (Forget (cost_of ServerError book)) (after (Acquire ServerError second) book)
asked second false book = after (Acquire ServerError second) book

-- how a fleet began: with these plans, this bucket, this world and so much fuel
pub record Origin (T : Type 0) : Type 0 where
  pub plans : List Plan
  pub book : Book
  pub world : T
  pub fuel : ℕ

module _ {T : Type 0} (does : T → FleetCall → T → Type 0) where
  -- these calls take the world from old to new and the fuel from before to after
  pub record Spends (old : T) (before : ℕ) (calls : List FleetCall) (new : T) (after : ℕ) : Type 0 where
    pub made : Chained does old calls new
    pub spent : after + asks calls ≡ before

  module _ (o : Origin T) (start : ℕ) where
    -- a fleet's acts so far, and all calls after the one that told the start
    pub record Kept (acts : List Act) (calls : List FleetCall) (book : Book) (world : T) (fuel : ℕ) : Type 0 where
      pub fleet : IsFleet o.plans o.book start (events_of acts)
      pub books : book ≡ book_after o.book (events_of acts)
      pub funded : AreFunded o.fuel acts
      pub spends : Spends o.world o.fuel (timed (Now start) ∷ calls) world fuel

    -- the fleet stands behind these acts, and these are its events in their order
    pub record Stands (acts : List Act) (events : List FleetEvent) (book : Book) (world : T) (fuel : ℕ) : Type 0 where
      pub kept : Kept acts (calls_of acts) book world fuel
      pub logged : events ≡ in_order (events_of acts)

    -- an allocation was refused: the bucket has the steps made so far
    pub record Halts (book : Book) (world : T) : Type 0 where
      pub acts : List Act
      pub calls : List FleetCall
      pub fleet : IsFleet o.plans o.book start (events_of acts)
      pub books : book ≡ book_after o.book (events_of acts)
      pub made : Chained does o.world (timed (Now start) ∷ calls) world

    -- What the fleet still asked when its fuel was spent, of the waiter whose turn it was.
    pub data Rest (acts : List Act) : List FleetCall → Type 0 where
      -- its poll had no answer
      unpolled : (waiter times : ℕ) → IsTurnOf (length o.plans) start (events_of acts) waiter →
          charges waiter (events_of acts) ≡ polls waiter (events_of acts) → Rest acts (unanswered waiter times)
      -- its sleep wasn't over, so its next poll wasn't paid for,
      asleep : (waiter sleep times : ℕ) → IsTurnOf (length o.plans) start (events_of acts) waiter →
          charges waiter (events_of acts) + 1 ≡ polls waiter (events_of acts) →
          open_sleep waiter acts ≡ Some sleep → Rest acts (unready sleep times)
      -- or was, with the last unit
      awoken : (waiter times : ℕ) → IsTurnOf (length o.plans) start (events_of acts) waiter →
          charges waiter (events_of acts) + 1 ≡ polls waiter (events_of acts) →
          Rest acts (awaited (open_sleep waiter acts) times)

    -- the fuel is spent behind these acts
    pub record RunsOut (acts : List Act) (events : List FleetEvent) (book : Book) (world : T) (fuel : ℕ) : Type 0 where
      pub rest : List FleetCall
      pub is_rest : Rest acts rest
      pub kept : Kept acts (calls_of acts ++ rest) book world fuel
      pub logged : events ≡ in_order (events_of acts)
      pub settled : is_settled (events_of acts) ≡ true
      pub all_spent : fuel ≡ 0

-- nothing has changed for the other waiters
pub record KeepsOthers (start waiter : ℕ) (old new : List Act) : Type 0 where
  pub same_polls : (other : ℕ) → other ≢ waiter → polls other (events_of new) ≡ polls other (events_of old)
  pub same_charges : (other : ℕ) → other ≢ waiter → charges other (events_of new) ≡ charges other (events_of old)
  pub same_moment : (other : ℕ) → other ≢ waiter →
      last_moment start other (events_of new) ≡ last_moment start other (events_of old)
  pub same_sleep : (other : ℕ) → other ≢ waiter → last_sleep other (events_of new) ≡ last_sleep other (events_of old)
  pub same_zero : (other : ℕ) → other ≢ waiter → zero_used other (events_of new) ≡ zero_used other (events_of old)
  pub same_end : (other : ℕ) → other ≢ waiter → ended other (events_of new) ≡ ended other (events_of old)
  pub same_open : (other : ℕ) → other ≢ waiter → open_sleep other new ≡ open_sleep other old

-- a poll that goes on doesn't end its waiter
pub record StaysOn (plan : Plan) (used : Bool) (elapsed : ℕ) (verdict : Verdict) : Type 0 where
  pub goes : verdict ≡ goes_on
  pub no_zero : used ≡ false
  pub in_time : elapsed ≤ plan.max_wait

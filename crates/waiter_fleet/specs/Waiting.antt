-- What a fleet did.
use Rattle.std.specs.Prelude.{◌≡◌, ℕ, ◌+◌, ◌≤◌, ◌<◌, ◌⊎◌, true, false, List, [], ◌∷◌, ◌++◌, Option, length}
use Rattle.smithy_types.specs.Chain.{Chained}
use Rattle.smithy_types.specs.declared.timers.TimersCall.TheVariants.{Now}
use Rattle.retry_quota.specs.Book.{Book}
use Rattle.waiter_fleet.specs.declared.event.FleetEvent.{FleetEvent}
use Rattle.waiter_fleet.specs.Acts.{Act, AreFunded, calls_of, events_of}
use Rattle.waiter_fleet.specs.Notes.{Keeps, KeepsAnswers}
use Rattle.waiter_fleet.specs.Calls.{FleetAnswer, FleetCall, asks, timed, waits}
use Rattle.waiter_fleet.specs.Events.{book_after, ended, in_order}
use Rattle.waiter_fleet.specs.Fleet.{IsFleet, is_settled, left_over}
use Rattle.waiter_fleet.specs.Steps.{Origin, Rest}

-- T is the type of the world
pub record WaitsAll {T : Type 0} (does : T → FleetCall → T → Type 0) (count : T → ℕ) (o : Origin T)
    (events : List FleetEvent) (book : Book) (world : T) : Type 0 where
  -- the start, and what happened by then, the last first
  pub start : ℕ
  pub acts : List Act
  pub fleet : IsFleet o.plans o.book start (events_of acts)
  -- Each poll is followed by its sleep or its waiter's end, and each refusal by its waiter's end.
  pub settled : is_settled (events_of acts) ≡ true
  -- Behind it the waiters that haven't ended end unfinished, in the order of their numbers.
  pub happened : events ≡ in_order (left_over (length o.plans) (events_of acts) ++ events_of acts)
  -- The bucket is that of the steps.
  pub books : book ≡ book_after o.book (events_of acts)
  -- The calls are those of the events, and what was still asked when the fuel was spent; each was a
  -- step of the world's relation.
  pub rest : List FleetCall
  pub is_rest : (rest ≡ []) ⊎ Rest does o start acts rest
  pub made : Chained does o.world (timed (Now start) ∷ (calls_of acts ++ rest)) world
  -- Whatever list of answers the world keeps, it kept the moments, words, polls and sleeps of these
  -- events in their order.
  pub kept : (answers : T → List FleetAnswer) (moment : T → Option ℕ) → KeepsAnswers does answers moment →
      Keeps start (events_of acts) (answers o.world) (answers world)
  -- The fuel bounds the polls that were answered or pending and the sleeps that were asked, and is
  -- spent where a waiter hasn't ended.
  pub within : asks (calls_of acts ++ rest) ≤ o.fuel
  -- Once it is spent, the bucket isn't asked.
  pub funded : AreFunded o.fuel acts
  pub all_spent : (waiter : ℕ) → waiter < length o.plans → ended waiter (events_of acts) ≡ false →
      asks (calls_of acts ++ rest) ≡ o.fuel
  -- The world counted the polls that had no answer and the sleeps that weren't over.
  pub counted : count world ≡ count o.world + waits (calls_of acts ++ rest)

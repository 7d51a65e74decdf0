-- What the laws of a fleet speak of. The last event stands first.
use Rattle.std.specs.Prelude.{◌≡◌, ℕ, ◌+◌, ◌-◌, ◌/◌, ◌⊎◌, Bool, false, List, [], ◌∷◌, ◌++◌, Option, Ok}
use Rattle.smithy_types.specs.declared.acceptor.AcceptorState.{AcceptorState}
use Rattle.smithy_types.specs.declared.timers.TimersCall.TheVariants.{Now, Ready, Start}
use Rattle.retry_quota.specs.Book.{Book}
use Rattle.waiter_fleet.specs.declared.event.Seen.{Seen}
use Rattle.waiter_fleet.specs.Calls.{FleetCall, drew, polled, timed}
use Rattle.waiter_fleet.specs.Steps.{Origin}
use Rattle.waiter_fleet.specs.Waiting.{WaitsAll}
use Rattle.smithy_types.specs.declared.kinds.ErrorKind.TheVariants.{ServerError}
use Rattle.waiters.specs.Delay.{second}
use Rattle.retry_quota.specs.History.{Entry, Acquire, Forget, Granted, Done}
use Rattle.retry_quota.specs.History as history
use Rattle.waiter_fleet.specs.declared.event.FleetEvent.{FleetEvent}
use Rattle.waiter_fleet.specs.declared.event.FleetEvent.TheVariants.{Poll, Sleep, Charged, Refused, End}

-- how many polls of all waiters were paid for
abbrev pub charged_in_all : List FleetEvent → ℕ
charged_in_all [] = 0
charged_in_all (Charged waiter moment ∷ before) = charged_in_all before + 1
charged_in_all (Poll waiter number moment seen state ∷ before) = charged_in_all before
charged_in_all (Sleep waiter nanos elapsed word ∷ before) = charged_in_all before
charged_in_all (Refused waiter cost moment ∷ before) = charged_in_all before
charged_in_all (End waiter ending ∷ before) = charged_in_all before

-- the steps of the bucket, in their order: a charge acquires at the second of its moment and forgets
-- what it was granted, a refusal acquires and is granted nothing
abbrev pub steps_of : ℕ → List FleetEvent → List Entry
steps_of cost [] = []
steps_of cost (Charged waiter moment ∷ before) =
    steps_of cost before
    ++ (record { step = Acquire ServerError (moment / second); reply = Granted cost }
    ∷ record { step = Forget cost; reply = Done } ∷ [])
steps_of cost (Refused waiter refused moment ∷ before) =
    steps_of cost before ++ record { step = Acquire ServerError (moment / second); reply = history.Refused } ∷ []
steps_of cost (Poll waiter number moment seen state ∷ before) = steps_of cost before
steps_of cost (Sleep waiter nanos elapsed word ∷ before) = steps_of cost before
steps_of cost (End waiter ending ∷ before) = steps_of cost before

-- A waiter with so many charges and polls has one charge for each poll but its first, or is paid for
-- one that wasn't made, and hasn't ended then.
abbrev pub PaysItsPolls : (charges polls : ℕ) → Bool → Type 0
PaysItsPolls charges polls over = (charges ≡ polls - 1) ⊎ ((charges ≡ polls) × (over ≡ false))

-- What a world answers, and where that leads it, follows from what it was. Want of memory aside.
pub record IsSteady {T : Type 0} (does : T → FleetCall → T → Type 0) : Type 0 where
  pub moves : (old first second : T) (call : FleetCall) → does old call first → does old call second → first ≡ second
  pub tells : (old first second : T) (one other : ℕ) → does old (timed (Now one)) first →
      does old (timed (Now other)) second → one ≡ other
  pub draws : (old first second : T) (one other : ℕ) → does old (drew one) first → does old (drew other) second →
      one ≡ other
  pub polls : (old first second : T) (waiter : ℕ) (one other : Option (Seen × AcceptorState)) →
      does old (polled waiter (Ok one)) first → does old (polled waiter (Ok other)) second → one ≡ other
  pub starts : (old first second : T) (nanos : ℕ) (one other : Option ℕ) →
      does old (timed (Start nanos (Ok one))) first → does old (timed (Start nanos (Ok other))) second → one ≡ other
  pub wakes : (old first second : T) (sleep : ℕ) (one other : Bool) →
      does old (timed (Ready sleep one)) first → does old (timed (Ready sleep other)) second → one ≡ other

-- two runs of a fleet over such a world, begun in one way, come to the same events and the same bucket
abbrev pub RunsAreDetermined : {T : Type 0} → (T → FleetCall → T → Type 0) → (T → ℕ) → Type 0
RunsAreDetermined {T} does count =
    IsSteady does → (o : Origin T) (events others : List FleetEvent) (book other : Book) (world last : T) →
    WaitsAll does count o events book world → WaitsAll does count o others other last →
    (events ≡ others) × (book ≡ other)

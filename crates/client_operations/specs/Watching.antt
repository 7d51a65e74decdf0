-- What a watch makes of a waiter's calls, and what a poll of it means.
use Rattle.std.specs.Prelude.{◌≡◌, ◌⊎◌, ◌↔◌, ℕ, Bool, true, false, IsSome, IsTrue, Ok, Err, Option, List, [], ◌∷◌, Result}
use Rattle.std.specs.Borrow.{Bor}
use Rattle.std.proofs.Common.{ap, subst}
use Rattle.smithy_types.specs.Chain.{Chained}
use Rattle.smithy_types.specs.declared.acceptor.AcceptorState.{AcceptorState}
use Rattle.smithy_types.specs.declared.acceptor.AcceptorState.TheVariants.{Success}
use Rattle.smithy_types.specs.declared.payload.Payload.{Payload}
use Rattle.smithy_types.specs.declared.timers.TimersCall.{TimersCall}
use Rattle.smithy_types.specs.declared.timers.TimersCall.TheVariants as timers
use Rattle.orchestrate.specs.Answered.{InputAnswered}
use Rattle.orchestrate.specs.declared.execution.InvokeError.{InvokeError}
use Rattle.orchestrate.specs.declared.execution.InvokeError.TheVariants.{OutOfMemory}
use Rattle.std.specs.declared.result.Result.TheVariants as Result
use Rattle.outside.specs.Calls as calls
use Rattle.outside.specs.Calls.{OutsideCall}
use Rattle.waiters.specs.Calls.{Answer}
use Rattle.waiters.specs.Count.{Counts}
use Rattle.waiters.specs.Walk.{End}
use Rattle.waiters.specs.WalkCalls.{Waits}
use Rattle.waiters.specs.declared.backoff.Backoff.{Backoff}
use Rattle.waiters.specs.declared.timers.WaiterCall.{WaiterCall}
use Rattle.waiters.specs.declared.timers.WaiterCall.TheVariants.{Timers, Word, Park, Poll}
use Rattle.client_operations.specs.Polling.{told}
use Rattle.client_operations.specs.declared.watching.Watch.{Watch}

-- the calls of the outside that a call of the timers makes: a sleep that is over is given up
abbrev pub made_for : TimersCall → List OutsideCall
made_for (timers.Ready sleep true) =
    calls.OfTimers (timers.Ready sleep true) ∷ calls.OfTimers (timers.GiveUp sleep) ∷ []
made_for (timers.Ready sleep false) = calls.OfTimers (timers.Ready sleep false) ∷ []
made_for (timers.Now moment) = calls.OfTimers (timers.Now moment) ∷ []
made_for (timers.Start nanos sleep) = calls.OfTimers (timers.Start nanos sleep) ∷ []
made_for (timers.GiveUp sleep) = calls.OfTimers (timers.GiveUp sleep) ∷ []

-- the acceptor's answer to this output, or to this error of the model, is Success
unfoldable pub IsAccepted : {O E : Type 0} → (Result (Bor O) (Bor E) → AcceptorState → Type 0) → Result O E → Type 0
IsAccepted {O} says (Ok output) = (seen : Bor O) × (seen.now ≡ output) × says (Ok seen) Success
IsAccepted {O} {E} says (Err error) = (seen : Bor E) × (seen.now ≡ error) × says (Err seen) Success

-- T is the family of a client's types, and X to L are those
module _ {T In Out Err X Q C I A R Z D P L : Type 0} where
  -- the outside of its client
  abbrev pub outside_of : Watch T In Out Err X Q C I A R Z D P L → X
  outside_of watch = watch.client.parts.outside

  -- the watch with another outside and another count
  abbrev pub waited : Watch T In Out Err X Q C I A R Z D P L → X → ℕ → Watch T In Out Err X Q C I A R Z D P L
  waited watch outside unready = record watch {
    client = record watch.client { parts = record watch.client.parts { outside = outside } };
    unready = unready;
  }

  -- A call of a waiter is made of its client's outside, where a sleep that is over is given up, a
  -- sleep that wasn't over is counted, and nothing else changes. A poll leaves the count as it was.
  abbrev pub Passes : (X → OutsideCall → X → Type 0) → Watch T In Out Err X Q C I A R Z D P L → WaiterCall →
      Watch T In Out Err X Q C I A R Z D P L → Type 0
  Passes makes old (Timers call) new =
      Chained makes (outside_of old) (made_for call) (outside_of new)
      × Counts old.unready (Timers call) new.unready × (new ≡ waited old (outside_of new) new.unready)
  Passes makes old (Word word) new =
      makes (outside_of old) (calls.Word word) (outside_of new) × (new ≡ waited old (outside_of new) old.unready)
  Passes makes old Park new =
      makes (outside_of old) calls.Park (outside_of new) × (new ≡ waited old (outside_of new) old.unready)
  Passes makes old (Poll number _) new = new.unready ≡ old.unready

  -- so the sleeps that weren't over are counted, and nothing else
  abbrev pub sleeps_are_counted : (makes : X → OutsideCall → X → Type 0) (old : Watch T In Out Err X Q C I A R Z D P L)
      (call : WaiterCall) (new : Watch T In Out Err X Q C I A R Z D P L) →
      Passes makes old call new → Counts old.unready call new.unready
  sleeps_are_counted makes old (Timers call) new made = made.1
  sleeps_are_counted makes old (Word word) new made = ap (λ w. w.unready) made.1
  sleeps_are_counted makes old Park new made = ap (λ w. w.unready) made.1
  sleeps_are_counted makes old (Poll number _) new made = made

  -- and a start answers a sleep, where the outside has sleeps
  abbrev pub sleeps_are_started : (makes : X → OutsideCall → X → Type 0) (sleeps : X → Bool)
      (started : (o : X) (nanos : ℕ) (sleep : Option ℕ) (n : X) →
      makes o (calls.OfTimers (timers.Start nanos (Ok sleep))) n → IsSome sleep ↔ IsTrue (sleeps o))
      (always : (o : X) → sleeps o ≡ true)
      (old : Watch T In Out Err X Q C I A R Z D P L) (nanos : ℕ) (sleep : Option ℕ)
      (new : Watch T In Out Err X Q C I A R Z D P L) →
      Passes makes old (Timers (timers.Start nanos (Ok sleep))) new → IsSome sleep ↔ IsTrue true
  sleeps_are_started makes sleeps started always old nanos sleep new made =
      subst (λ b. IsSome sleep ↔ IsTrue b) (always (outside_of old))
      (started (outside_of old) nanos sleep made.0.0 made.0.1)

  module _ (is_clone : In → In → Type 0) (in_accepts : Payload → Bool) (in_reads : Payload → In → Type 0)
      (out_accepts : Payload → Bool) (out_reads : Payload → Out → Type 0) (err_accepts : Payload → Bool)
      (err_reads : Payload → Err → Type 0) where
    -- A poll with this number asks once, with a copy of the input, and tells what was answered.
    pub record Asks (old : Watch T In Out Err X Q C I A R Z D P L) (number : ℕ) (found : Answer Out Err)
        (new : Watch T In Out Err X Q C I A R Z D P L) : Type 0 where
      pub answer : Result Out (InvokeError Err)
      pub tells : found ≡ told answer
      pub asks :
          ((input :
          In) × is_clone old.input input × InputAnswered in_accepts in_reads out_accepts out_reads err_accepts err_reads input old.fuel answer old.client.log new.client.log)
          ⊎ ((answer ≡ Result.Err OutOfMemory) × (new.client ≡ old.client))
      pub others : new ≡ record old { polls = number; client = new.client }

    -- A waiter of these delays walked over what is watched, and answered this.
    pub record WaitsBy (makes : X → OutsideCall → X → Type 0)
        (says : Result (Bor Out) (Bor Err) → AcceptorState → Type 0) (min max max_wait : ℕ)
        (old : Watch T In Out Err X Q C I A R Z D P L) (fuel : ℕ) (ending : End Out Err)
        (new : Watch T In Out Err X Q C I A R Z D P L) : Type 0 where
      pub backoff : Backoff
      pub min_is : backoff.min_delay ≡ min
      pub max_is : backoff.max_delay ≡ max
      pub max_wait_is : backoff.max_wait ≡ max_wait
      pub waits : Waits backoff says (Passes makes) (λ w. w.unready)
          (λ before number answer after. Asks before.now number answer after.now) old fuel ending new

-- The parts of a turn, as the waiter makes them.
use Rattle.std.specs.Prelude.{◌≡◌, ℕ, ◌+◌, Bool, true, List, [], ◌∷◌, ◌++◌, Option, None, Some, Result, Ok, Err}
use Rattle.std.specs.Prelude.{count_by, if◌then◌else◌}
use Rattle.std.specs.Borrow.{Bor, MutBor}
use Rattle.smithy_types.specs.declared.acceptor.AcceptorState.{AcceptorState}
use Rattle.smithy_types.specs.declared.fault.SdkError.{SdkError}
use Rattle.smithy_types.specs.declared.fault.SdkError.TheVariants.{ConstructionFailure, TimeoutError, DispatchFailure}
use Rattle.smithy_types.specs.declared.fault.SdkError.TheVariants.{ResponseError, ServiceError}
use Rattle.smithy_types.specs.declared.timers.TimersCall.TheVariants.{Start, Ready}
use Rattle.waiters.specs.declared.backoff.Backoff.{Backoff}
use Rattle.waiters.specs.declared.progress.Progress.{Progress}
use Rattle.waiters.specs.declared.asking.Stop.{Stop}
use Rattle.waiters.specs.declared.asking.Stop.TheVariants as stop
use Rattle.waiters.specs.declared.outcome.WaiterError.{WaiterError}
use Rattle.waiters.specs.declared.outcome.WaiterError.TheVariants as end
use Rattle.waiters.specs.declared.timers.WaiterCall.{WaiterCall}
use Rattle.waiters.specs.declared.timers.WaiterCall.TheVariants.{Timers}
use Rattle.waiters.specs.Calls.{Answer, Call, Handed, asks, is_ready_call, polled}
use Rattle.waiters.specs.Walk.{End, IsTurn, Turn, number_after, zero_used}
use Rattle.waiters.specs.WalkCalls.{Rest, delay_calls, turn_calls, unanswered, unready}

-- what the acceptor is asked about, if it can be
abbrev pub Sees : {O E : Type 0} → Result O (SdkError E) → Option (Result (Bor O) (Bor E)) → Type 0
Sees {O} (Ok output) found = (seen : Bor O) × (seen.now ≡ output) × (found ≡ Some (Ok seen))
Sees {O} {E} (Err (ServiceError error response)) found = (seen : Bor E) × (seen.now ≡ error) × (found ≡ Some (Err seen))
Sees (Err (ConstructionFailure fault)) found = found ≡ None
Sees (Err (TimeoutError fault)) found = found ≡ None
Sees (Err (DispatchFailure fault)) found = found ≡ None
Sees (Err (ResponseError fault response)) found = found ≡ None

-- what a walk that stops so answers
abbrev pub error_of : {O E : Type 0} → Stop → WaiterError O E
error_of stop.Unfinished = end.Unfinished
error_of (stop.OutOfMemory refused) = end.OutOfMemory

-- the asks of one poll
abbrev pub ask_calls : {O E : Type 0} → (number times : ℕ) → Result (Result O (SdkError E)) Stop → List (Call O E)
ask_calls number times (Ok result) = unanswered number times ++ (polled number (Ok (Some result)) ∷ [])
ask_calls number times (Err stop.Unfinished) = unanswered number times
ask_calls number times (Err (stop.OutOfMemory refused)) = unanswered number times ++ (polled number (Err refused) ∷ [])

-- the asks of one sleep: whether it came to its end
abbrev pub sleep_calls : (sleep times : ℕ) → Bool → List WaiterCall
sleep_calls sleep times over =
    if over then unready sleep times ++ (Timers (Ready sleep true) ∷ []) else unready sleep times

-- the calls of one delay
abbrev pub pause_calls : (delay sleep times : ℕ) → Result Unit Stop → List WaiterCall
pause_calls delay sleep times (Ok done) = delay_calls delay sleep times
pause_calls delay sleep times (Err stop.Unfinished) = Timers (Start delay (Ok (Some sleep))) ∷ unready sleep times
pause_calls delay sleep times (Err (stop.OutOfMemory refused)) = Timers (Start delay (Err refused)) ∷ []

module _ {T : Type 0} (makes : T → WaiterCall → T → Type 0) where
  -- these calls of the timers, one after another
  abbrev pub TimersHanded : T → List WaiterCall → T → Type 0
  TimersHanded old [] new = old ≡ new
  TimersHanded old (call ∷ calls) new = (mid : T) × makes old call mid × TimersHanded mid calls new

  -- and the fuel goes from before to after
  pub record TimersSpend (old : T) (before : ℕ) (calls : List WaiterCall) (new : T) (after : ℕ) : Type 0 where
    pub handed : TimersHanded old calls new
    pub spent : after + count_by is_ready_call calls ≡ before

module _ {T O E : Type 0} (makes : T → WaiterCall → T → Type 0)
    (answers : MutBor T → ℕ → Answer O E → MutBor T → Type 0) where
  -- these calls take the timers from old to new and the fuel from before to after
  pub record Spends (old : T) (before : ℕ) (calls : List (Call O E)) (new : T) (after : ℕ) : Type 0 where
    pub handed : Handed makes answers old calls new
    pub spent : after + asks calls ≡ before

-- the progress is that of these turns
pub record StandsAfter {O E : Type 0} (before : List (Turn O E)) (progress : Progress) : Type 0 where
  pub numbered : progress.number ≡ number_after before
  pub zero : progress.zero_used ≡ zero_used before

module _ {T O E : Type 0} (backoff : Backoff) (says : Result (Bor O) (Bor E) → AcceptorState → Type 0)
    (makes : T → WaiterCall → T → Type 0) (answers : MutBor T → ℕ → Answer O E → MutBor T → Type 0)
    (before : List (Turn O E)) (old : T) (was : Progress) (new : T) (is : Progress) where
  -- a further turn was made
  pub record GoesOn : Type 0 where
    pub turn : Turn O E
    pub follows : IsTurn backoff says was.start before turn
    pub stands : StandsAfter (turn ∷ before) is
    pub same_start : is.start ≡ was.start
    pub spends : Spends makes answers old was.fuel (turn_calls (number_after before) turn) new is.fuel

  -- the waiter ended
  pub record Stops (ending : End O E) : Type 0 where
    pub rest : List (Call O E)
    pub ends : Rest backoff says was.start before ending rest
    pub spends : Spends makes answers old was.fuel rest new is.fuel
    pub all_spent : ending ≡ Err end.Unfinished → is.fuel ≡ 0

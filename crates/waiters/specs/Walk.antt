-- The walk of a waiter over its polls. Moments and delays are in nanoseconds.
use Rattle.std.specs.Prelude.{◌≡◌, ℕ, ◌+◌, ◌-◌, ◌<◌, ◌≤◌, ◌⊎◌, ◌==◌, Bool, true, false, List, [], ◌∷◌, length, Result}
use Rattle.std.specs.Prelude.{Ok, Err, min, ◌^◌}
use Rattle.std.specs.List.{list_any}
use Rattle.std.specs.Borrow.{Bor}
use Rattle.smithy_types.specs.declared.acceptor.AcceptorState.{AcceptorState}
use Rattle.smithy_types.specs.declared.acceptor.AcceptorState.TheVariants.{NoAcceptorsMatched, Success, Failure, Retry}
use Rattle.smithy_types.specs.declared.fault.SdkError.{SdkError}
use Rattle.smithy_types.specs.declared.fault.SdkError.TheVariants.{ConstructionFailure, TimeoutError, DispatchFailure}
use Rattle.smithy_types.specs.declared.fault.SdkError.TheVariants.{ResponseError, ServiceError}
use Rattle.waiters.specs.declared.backoff.Backoff.{Backoff}
use Rattle.waiters.specs.declared.outcome.FinalPoll.{FinalPoll}
use Rattle.waiters.specs.declared.outcome.WaiterError.{WaiterError}
use Rattle.waiters.specs.declared.outcome.WaiterError.TheVariants as end
use Rattle.waiters.specs.Delay.{IsDelay}

-- a poll that was answered
pub record Poll (O E : Type 0) : Type 0 where
  -- how often it was asked before
  pub pending : ℕ
  pub result : Result O (SdkError E)
  pub state : AcceptorState
  -- what the clock answered after it
  pub moment : ℕ

-- a poll that doesn't end the walk, with the delay after it
pub record Turn (O E : Type 0) : Type 0 where
  pub poll : Poll O E
  pub word : ℕ
  pub delay : ℕ
  -- the number of its sleep, if the delay isn't 0
  pub sleep : ℕ
  -- how often the sleep was asked before it was over
  pub unready : ℕ

-- the state is what the acceptor says of an output or an error of the operation's model
abbrev pub Accepts : {O E : Type 0} → (Result (Bor O) (Bor E) → AcceptorState → Type 0) → Result O (SdkError E) →
    AcceptorState → Type 0
Accepts {O} says (Ok output) state = (seen : Bor O) × (seen.now ≡ output) × says (Ok seen) state
Accepts {O} {E} says (Err (ServiceError error response)) state =
    (seen : Bor E) × (seen.now ≡ error) × says (Err seen) state
Accepts says (Err (ConstructionFailure fault)) state = Unit {0}
Accepts says (Err (TimeoutError fault)) state = Unit {0}
Accepts says (Err (DispatchFailure fault)) state = Unit {0}
Accepts says (Err (ResponseError fault response)) state = Unit {0}

-- what a poll means for the walk
pub data Verdict : Type 0 where
  fails : Verdict
  succeeds : Verdict
  is_failure : Verdict
  goes_on : Verdict

-- what a poll with this result and this state of the acceptor means for the walk
abbrev pub verdict : {O E : Type 0} → Result O (SdkError E) → AcceptorState → Verdict
-- an error that isn't of the operation's model, whatever its state
verdict (Err (ConstructionFailure fault)) state = fails
verdict (Err (TimeoutError fault)) state = fails
verdict (Err (DispatchFailure fault)) state = fails
verdict (Err (ResponseError fault response)) state = fails
verdict (Ok output) Success = succeeds
verdict (Err (ServiceError error response)) Success = succeeds
-- an error of the model that no acceptor matched
verdict (Err (ServiceError error response)) NoAcceptorsMatched = fails
verdict (Ok output) Failure = is_failure
verdict (Err (ServiceError error response)) Failure = is_failure
-- a retry state, and an output that no acceptor matched
verdict (Ok output) Retry = goes_on
verdict (Err (ServiceError error response)) Retry = goes_on
verdict (Ok output) NoAcceptorsMatched = goes_on

-- the final poll has the output, or the model's error without its response
abbrev pub Shows : {O E : Type 0} → Result O E → Result O (SdkError E) → Type 0
Shows (Ok output) (Ok answered) = output ≡ answered
Shows (Err error) (Err (ServiceError answered response)) = error ≡ answered
Shows (Ok output) (Err failed) = ⊥
Shows (Err error) (Ok answered) = ⊥
Shows (Err error) (Err (ConstructionFailure fault)) = ⊥
Shows (Err error) (Err (TimeoutError fault)) = ⊥
Shows (Err error) (Err (DispatchFailure fault)) = ⊥
Shows (Err error) (Err (ResponseError fault response)) = ⊥

-- what a waiter returns: the final poll that succeeded, or an error
abbrev pub End : Type 0 → Type 0 → Type 0
End O E = Result (FinalPoll O E) (WaiterError O E)

-- a poll ends the walk by itself, whatever came before
abbrev pub EndsBy : {O E : Type 0} → Result O (SdkError E) → AcceptorState → End O E → Type 0
EndsBy result state (Ok final) = (verdict result state ≡ succeeds) × Shows final.result result
EndsBy result state (Err (end.OperationFailed error)) = (verdict result state ≡ fails) × (result ≡ Err error)
EndsBy result state (Err (end.FailureState final)) = (verdict result state ≡ is_failure) × Shows final.result result
EndsBy result state (Err (end.ExceededMaxWait max_wait elapsed poll_count)) = ⊥
EndsBy result state (Err end.Unfinished) = ⊥
EndsBy result state (Err end.OutOfMemory) = ⊥

-- the number of the poll after these turns, which stops at the greatest u32
abbrev pub number_after : {O E : Type 0} → List (Turn O E) → ℕ
number_after before = min (length before + 1) (2 ^ 32 - 1)

-- whether a delay of 0 was used
abbrev pub zero_used : {O E : Type 0} → List (Turn O E) → Bool
zero_used = list_any (λ turn. turn.delay == 0)

-- A walk's turns stand with the last one first.
module _ {O E : Type 0} (backoff : Backoff) (says : Result (Bor O) (Bor E) → AcceptorState → Type 0) (start : ℕ) where
  -- A poll that goes on ends the walk after a delay of 0, or where more than the longest wait is over.
  abbrev pub EndsAt : List (Turn O E) → Poll O E → End O E → Type 0
  EndsAt before poll (Err (end.ExceededMaxWait max_wait elapsed poll_count)) =
      (verdict poll.result poll.state ≡ goes_on)
      × ((zero_used before ≡ true) ⊎ (backoff.max_wait < poll.moment - start))
      × (max_wait ≡ backoff.max_wait) × (elapsed ≡ poll.moment - start) × (poll_count ≡ number_after before)
  EndsAt before poll (Ok final) = EndsBy poll.result poll.state (Ok final)
  EndsAt before poll (Err (end.OperationFailed error)) = EndsBy poll.result poll.state (Err (end.OperationFailed error))
  EndsAt before poll (Err (end.FailureState final)) = EndsBy poll.result poll.state (Err (end.FailureState final))
  EndsAt before poll (Err end.Unfinished) = ⊥
  EndsAt before poll (Err end.OutOfMemory) = ⊥

  -- this poll ends the walk so
  pub record Ends (before : List (Turn O E)) (poll : Poll O E) (ending : End O E) : Type 0 where
    pub accepts : Accepts says poll.result poll.state
    pub ends : EndsAt before poll ending

  -- this poll doesn't end the walk, and this turn follows from it
  pub record IsTurn (before : List (Turn O E)) (turn : Turn O E) : Type 0 where
    pub accepts : Accepts says turn.poll.result turn.poll.state
    pub goes : verdict turn.poll.result turn.poll.state ≡ goes_on
    pub no_zero : zero_used before ≡ false
    pub in_time : turn.poll.moment - start ≤ backoff.max_wait
    pub delays : IsDelay backoff.min_delay backoff.max_delay backoff.max_wait (number_after before)
        (turn.poll.moment - start) turn.word turn.delay

  -- each turn follows from those before it
  abbrev pub IsWalk : List (Turn O E) → Type 0
  IsWalk [] = Unit {0}
  IsWalk (turn ∷ before) = IsTurn before turn × IsWalk before

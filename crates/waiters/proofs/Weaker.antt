-- What a waiter did, told by weaker facts of its acceptors and its operation.
use Rattle.std.proofs.Common.{ℕ, List, [], ◌∷◌, ◌++◌, Result, Ok, Err}
use Rattle.std.specs.Borrow.{Bor, MutBor}
use Rattle.smithy_types.specs.declared.acceptor.AcceptorState.{AcceptorState}
use Rattle.smithy_types.specs.declared.fault.SdkError.{SdkError}
use Rattle.smithy_types.specs.declared.fault.SdkError.TheVariants.{ConstructionFailure, TimeoutError, DispatchFailure, ResponseError, ServiceError}
use Rattle.waiters.specs.Calls.{Answer, Call, polled, called, Takes, Handed}
use Rattle.waiters.specs.Walk.{Accepts, End, Ends, IsTurn, IsWalk, Poll, Turn}
use Rattle.waiters.specs.WalkCalls.{Rest, ended, polling, sleeping, poll_refused, sleep_refused, Waits, walk_calls}
use Rattle.waiters.specs.declared.backoff.Backoff.{Backoff}
use Rattle.smithy_types.specs.declared.timers.TimersCall.TheVariants.{Now}
use Rattle.waiters.specs.declared.timers.WaiterCall.{WaiterCall}
use Rattle.waiters.specs.declared.timers.WaiterCall.TheVariants.{Timers}

module _ {T O E : Type 0} (makes : T → WaiterCall → T → Type 0) (answers tells : MutBor T → ℕ → Answer O E → MutBor T → Type 0)
    (weaker : (b : MutBor T) (n : ℕ) (a : Answer O E) (c : MutBor T) → answers b n a c → tells b n a c) where
  takes : (old : T) (call : Call O E) (new : T) → Takes makes answers old call new → Takes makes tells old call new
  takes old (polled number answer) new h = (
    h.0,
    record {
      before = h.1.before;
      shows = h.1.shows;
      after = h.1.after;
      leaves = h.1.leaves;
      met = weaker h.1.before number answer h.1.after h.1.met;
    },
  )
  takes old (called call) new h = h

  pub handed : (old : T) (calls : List (Call O E)) (new : T) → Handed makes answers old calls new → Handed makes tells old calls new
  handed old [] new h = h
  handed old (call ∷ calls) new h = (h.0, takes old call h.0 h.1, handed h.0 calls new h.2)

module _ {O E : Type 0} (backoff : Backoff) (says means : Result (Bor O) (Bor E) → AcceptorState → Type 0)
    (weaker : (seen : Result (Bor O) (Bor E)) (state : AcceptorState) → says seen state → means seen state) (start : ℕ) where
  accepts : (result : Result O (SdkError E)) (state : AcceptorState) → Accepts says result state → Accepts means result state
  accepts (Ok output) state h = (h.0, h.1, weaker (Ok h.0) state h.2)
  accepts (Err (ServiceError error response)) state h = (h.0, h.1, weaker (Err h.0) state h.2)
  accepts (Err (ConstructionFailure fault)) state h = tt
  accepts (Err (TimeoutError fault)) state h = tt
  accepts (Err (DispatchFailure fault)) state h = tt
  accepts (Err (ResponseError fault response)) state h = tt

  is_turn : (before : List (Turn O E)) (turn : Turn O E) → IsTurn backoff says start before turn → IsTurn backoff means start before turn
  is_turn before turn h = record {
    accepts = accepts turn.poll.result turn.poll.state h.accepts;
    goes = h.goes;
    no_zero = h.no_zero;
    in_time = h.in_time;
    delays = h.delays;
  }

  pub is_walk : (turns : List (Turn O E)) → IsWalk backoff says start turns → IsWalk backoff means start turns
  is_walk [] h = tt
  is_walk (turn ∷ before) h = (is_turn before turn h.0, is_walk before h.1)

  ends : (before : List (Turn O E)) (poll : Poll O E) (ending : End O E) → Ends backoff says start before poll ending → Ends backoff means start before poll ending
  ends before poll ending h = record { accepts = accepts poll.result poll.state h.accepts; ends = h.ends }

  pub rest : (before : List (Turn O E)) (ending : End O E) (calls : List (Call O E)) → Rest backoff says start before ending calls → Rest backoff means start before ending calls
  rest before ending calls (ended poll h) = ended poll (ends before poll ending h)
  rest before ending calls (polling times) = polling times
  rest before ending calls (sleeping turn times h slept) = sleeping turn times (is_turn before turn h) slept
  rest before ending calls (poll_refused times refused) = poll_refused times refused
  rest before ending calls (sleep_refused turn refused h slept) = sleep_refused turn refused (is_turn before turn h) slept

pub waits : {T O E : Type 0} (backoff : Backoff) (says means : Result (Bor O) (Bor E) → AcceptorState → Type 0) (makes : T → WaiterCall → T → Type 0) (count : T → ℕ)
    (answers tells : MutBor T → ℕ → Answer O E → MutBor T → Type 0) (old : T) (fuel : ℕ) (ending : End O E) (new : T) →
    ((seen : Result (Bor O) (Bor E)) (state : AcceptorState) → says seen state → means seen state) →
    ((b : MutBor T) (n : ℕ) (a : Answer O E) (c : MutBor T) → answers b n a c → tells b n a c) →
    Waits backoff says makes count answers old fuel ending new → Waits backoff means makes count tells old fuel ending new
waits backoff says means makes count answers tells old fuel ending new f g h = record {
  start = h.start;
  turns = h.turns;
  walks = is_walk backoff says means f h.start h.turns h.walks;
  rest = h.rest;
  ends = rest backoff says means f h.start h.turns ending h.rest h.ends;
  handed = handed makes answers tells g old (called (Timers (Now h.start)) ∷ (walk_calls h.turns ++ h.rest)) new h.handed;
  within = h.within;
  spent = h.spent;
  counted = h.counted;
}

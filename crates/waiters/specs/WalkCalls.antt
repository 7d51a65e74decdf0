-- The calls of a walk, in their order.
use Rattle.std.specs.Prelude.{◌≡◌, ◌≢◌, ℕ, ◌+◌, ◌≤◌, ◌==◌, true, false, List, [], ◌∷◌, ◌++◌, None, Some, Result, Ok}
use Rattle.std.specs.Prelude.{Err, if◌then◌else◌, zero, suc, count_by, map}
use Rattle.std.specs.Borrow.{Bor, MutBor}
use Rattle.smithy_types.specs.declared.acceptor.AcceptorState.{AcceptorState}
use Rattle.smithy_types.specs.declared.memory.OutOfMemory.{OutOfMemory}
use Rattle.smithy_types.specs.declared.timers.TimersCall.TheVariants.{Now, Start, Ready}
use Rattle.waiters.specs.declared.backoff.Backoff.{Backoff}
use Rattle.waiters.specs.declared.outcome.WaiterError.TheVariants as end
use Rattle.waiters.specs.declared.timers.WaiterCall.{WaiterCall}
use Rattle.waiters.specs.declared.timers.WaiterCall.TheVariants.{Timers, Word, Park}
use Rattle.waiters.specs.Calls.{Call, polled, called, Answer, Handed, asks, is_unready}
use Rattle.waiters.specs.Walk.{Poll, Turn, End, Ends, IsTurn, IsWalk, number_after}

-- the operation is asked so often and has no answer yet, with a park right after each ask
abbrev pub unanswered : {O E : Type 0} → ℕ → ℕ → List (Call O E)
unanswered number zero = []
unanswered number (suc times) = polled number (Ok None) ∷ called Park ∷ unanswered number times

-- the sleep is asked so often and isn't over, with a park right after each ask
abbrev pub unready : ℕ → ℕ → List WaiterCall
unready sleep zero = []
unready sleep (suc times) = Timers (Ready sleep false) ∷ Park ∷ unready sleep times

-- a poll is asked until it is answered, and then the clock is
abbrev pub poll_calls : {O E : Type 0} → ℕ → Poll O E → List (Call O E)
poll_calls number poll =
    unanswered number poll.pending ++ (polled number (Ok (Some poll.result)) ∷ called (Timers (Now poll.moment)) ∷ [])

-- a delay of 0 starts no sleep, any other one that is asked until it is over
abbrev pub delay_calls : (delay sleep times : ℕ) → List WaiterCall
delay_calls delay sleep times =
    if delay == 0 then []
    else Timers (Start delay (Ok (Some sleep))) ∷ (unready sleep times ++ (Timers (Ready sleep true) ∷ []))

-- the calls of a turn: those of its poll, the draw of its word and those of its delay
abbrev pub turn_calls : {O E : Type 0} → ℕ → Turn O E → List (Call O E)
turn_calls number turn =
    poll_calls number turn.poll ++ map called (Word turn.word ∷ delay_calls turn.delay turn.sleep turn.unready)

-- the calls of these turns, of which the last stands first
abbrev pub walk_calls : {O E : Type 0} → List (Turn O E) → List (Call O E)
walk_calls [] = []
walk_calls (turn ∷ before) = walk_calls before ++ turn_calls (number_after before) turn

module _ {O E : Type 0} (backoff : Backoff) (says : Result (Bor O) (Bor E) → AcceptorState → Type 0) (start : ℕ) where
  -- the calls behind these turns, and what they end with
  pub data Rest (before : List (Turn O E)) : End O E → List (Call O E) → Type 0 where
    -- a poll ends the walk
    ended : {ending : End O E} (poll : Poll O E) → Ends backoff says start before poll ending →
        Rest before ending (poll_calls (number_after before) poll)
    -- the walk doesn't end: the operation isn't asked any more,
    polling : (times : ℕ) → Rest before (Err end.Unfinished) (unanswered (number_after before) times)
    -- or the sleep of a further turn isn't
    sleeping : (turn : Turn O E) (times : ℕ) → IsTurn backoff says start before turn → turn.delay ≢ 0 →
        Rest before (Err end.Unfinished) (poll_calls (number_after before) turn.poll
        ++ map called (Word turn.word ∷ Timers (Start turn.delay (Ok (Some turn.sleep))) ∷ unready turn.sleep times))
    -- the operation found no memory,
    poll_refused : (times : ℕ) (refused : OutOfMemory) → Rest before (Err end.OutOfMemory)
        (unanswered (number_after before) times ++ (polled (number_after before) (Err refused) ∷ []))
    -- or the sleep of a further turn did
    sleep_refused : (turn : Turn O E) (refused : OutOfMemory) → IsTurn backoff says start before turn → turn.delay ≢ 0 →
        Rest before (Err end.OutOfMemory) (poll_calls (number_after before) turn.poll
        ++ map called (Word turn.word ∷ Timers (Start turn.delay (Err refused)) ∷ []))

-- what a waiter did: T is the type of its timers
pub record Waits {T O E : Type 0} (backoff : Backoff) (says : Result (Bor O) (Bor E) → AcceptorState → Type 0)
    (makes : T → WaiterCall → T → Type 0) (count : T → ℕ) (answers : MutBor T → ℕ → Answer O E → MutBor T → Type 0)
    (old : T) (fuel : ℕ) (ending : End O E) (new : T) : Type 0 where
  -- the start, and the turns, the last one first
  pub start : ℕ
  pub turns : List (Turn O E)
  pub walks : IsWalk backoff says start turns
  pub rest : List (Call O E)
  pub ends : Rest backoff says start turns ending rest
  -- The calls are those of the walk, and each was a step of the timers' relation.
  pub handed : Handed makes answers old (called (Timers (Now start)) ∷ (walk_calls turns ++ rest)) new
  -- The fuel bounds the polls that were answered or pending and the sleeps that were asked, and is
  -- spent where the walk doesn't end.
  pub within : asks (walk_calls turns ++ rest) ≤ fuel
  pub spent : ending ≡ Err end.Unfinished → asks (walk_calls turns ++ rest) ≡ fuel
  -- The timers counted the sleeps that weren't over.
  pub counted : count new ≡ count old + count_by is_unready (walk_calls turns ++ rest)

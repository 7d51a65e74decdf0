-- The calls that a waiter makes of its timers and its operation.
use Rattle.std.specs.Prelude.{◌≡◌, ℕ, ◌≤◌, ◌<◌, ◌^◌, Bool, true, false, not, List, [], ◌∷◌, Option, None, Some, Result}
use Rattle.std.specs.Prelude.{Ok, Err, count_by}
use Rattle.std.specs.Borrow.{MutBor}
use Rattle.smithy_types.specs.declared.fault.SdkError.{SdkError}
use Rattle.smithy_types.specs.declared.memory.OutOfMemory.{OutOfMemory}
use Rattle.smithy_types.specs.declared.timers.TimersCall.TheVariants.{Now, Start, Ready, GiveUp}
use Rattle.waiters.specs.declared.timers.PollAnswer.{PollAnswer}
use Rattle.waiters.specs.declared.timers.PollAnswer.TheVariants as poll
use Rattle.waiters.specs.declared.timers.WaiterCall.{WaiterCall}
use Rattle.waiters.specs.declared.timers.WaiterCall.TheVariants.{Timers, Word, Park, Poll}

-- what a poll of the operation answers
abbrev pub Answer : Type 0 → Type 0 → Type 0
Answer O E = Result (Option (Result O (SdkError E))) OutOfMemory

-- what the timers are told of it
abbrev pub poll_answer : {O E : Type 0} → Answer O E → PollAnswer
poll_answer (Ok None) = poll.Pending
poll_answer (Ok (Some result)) = poll.Answered
poll_answer (Err error) = poll.OutOfMemory

-- a call with all that it answered: a poll with its number, or a call of the timers
pub data Call (O E : Type 0) : Type 0 where
  polled : ℕ → Answer O E → Call O E
  called : WaiterCall → Call O E

-- whether a sleep was asked
abbrev pub is_ready_call : WaiterCall → Bool
is_ready_call (Timers (Ready sleep over)) = true
is_ready_call (Timers (Now moment)) = false
is_ready_call (Timers (Start nanos sleep)) = false
is_ready_call (Timers (GiveUp sleep)) = false
is_ready_call (Word word) = false
is_ready_call Park = false
is_ready_call (Poll number told) = false

-- whether a sleep was asked and wasn't over
abbrev pub is_unready_call : WaiterCall → Bool
is_unready_call (Timers (Ready sleep over)) = not over
is_unready_call (Timers (Now moment)) = false
is_unready_call (Timers (Start nanos sleep)) = false
is_unready_call (Timers (GiveUp sleep)) = false
is_unready_call (Word word) = false
is_unready_call Park = false
is_unready_call (Poll number told) = false

-- Whether a call spends a unit of fuel: a poll that was answered or is pending, or a sleep that was
-- asked.
abbrev pub is_ask : {O E : Type 0} → Call O E → Bool
is_ask (polled number (Ok found)) = true
is_ask (polled number (Err error)) = false
is_ask (called call) = is_ready_call call

-- whether a call asked a sleep that wasn't over yet
abbrev pub is_unready : {O E : Type 0} → Call O E → Bool
is_unready (polled number found) = false
is_unready (called call) = is_unready_call call

-- the fuel that these calls spend
abbrev pub asks : {O E : Type 0} → List (Call O E) → ℕ
asks = count_by is_ask

-- A poll with this number may find the timers old, answer this and leave them new.
pub record Polls {T O E : Type 0} (answers : MutBor T → ℕ → Answer O E → MutBor T → Type 0) (old : T) (number : ℕ)
    (answer : Answer O E) (new : T) : Type 0 where
  pub before : MutBor T
  pub shows : before.now ≡ old
  pub after : MutBor T
  pub leaves : after.now ≡ new
  pub met : answers before number answer after

module _ {T O E : Type 0} (makes : T → WaiterCall → T → Type 0)
    (answers : MutBor T → ℕ → Answer O E → MutBor T → Type 0) where
  -- one call may take the timers from old to new
  abbrev pub Takes : T → Call O E → T → Type 0
  Takes old (polled number answer) new =
      makes old (Poll number (poll_answer answer)) new × Polls answers old number answer new
  Takes old (called call) new = makes old call new

  -- these calls may, one after another
  abbrev pub Handed : T → List (Call O E) → T → Type 0
  Handed old [] new = old ≡ new
  Handed old (call ∷ calls) new = (mid : T) × Takes old call mid × Handed mid calls new

-- The operation keeps the timers' relation, at each number that a poll may have.
abbrev pub KeepsTimers : {T O E : Type 0} → (T → WaiterCall → T → Type 0) →
    (MutBor T → ℕ → Answer O E → MutBor T → Type 0) → Type 0
KeepsTimers {T} {O} {E} makes answers =
    (before after : MutBor T) (number : ℕ) (answer : Answer O E) → 1 ≤ number → number < 2 ^ 32 →
    answers before number answer after →
    makes before.now (Poll number (poll_answer answer)) after.now

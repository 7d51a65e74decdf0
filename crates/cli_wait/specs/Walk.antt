-- The walk of a waiter over a script.
use Rattle.std.specs.Prelude.{◌≡◌, ℕ, None, Some, Result, Ok, Err, MatchResult}
use Rattle.std.specs.Borrow.{Bor, MutBor}
use Rattle.smithy_types.specs.declared.acceptor.AcceptorState.{AcceptorState}
use Rattle.cli_wait.specs.declared.polls.PolledValue.{PolledValue}
use Rattle.cli_wait.specs.declared.scripted_timers.ScriptedTimers.{ScriptedTimers}
use Rattle.cli_wait.specs.Makes.{Makes}
use Rattle.cli_wait.specs.Polls.{Answers, poll_at}
use Rattle.waiters.specs.Calls.{Answer}
use Rattle.waiters.specs.Walk.{End}
use Rattle.waiters.specs.WalkCalls.{Waits}
use Rattle.waiters.specs.declared.backoff.Backoff.{Backoff}
use Rattle.cli_wait.specs.Endings.{ending_of}
use Rattle.cli_wait.specs.declared.ending.WaitEnding.{WaitEnding}

-- the acceptors say what the script says of the value
abbrev pub Says : Result (Bor PolledValue) (Bor PolledValue) → AcceptorState → Type 0
Says seen state = MatchResult seen (λ output. state ≡ output.now.state) (λ error. state ≡ error.now.state)

-- a poll that is answered answers what the script says of its number
abbrev pub Tells : MutBor ScriptedTimers → ℕ → Answer PolledValue PolledValue → MutBor ScriptedTimers → Type 0
Tells before number (Ok (Some answer)) after = Answers (poll_at before.now.polls number) answer
Tells before number (Ok None) after = Unit {0}
Tells before number (Err error) after = Unit {0}

-- A waiter of these delays walked over the timers, and answered this: each call was a step of the
-- script's timers, and each poll answered what the script says.
pub record WalksBy (min max max_wait : ℕ) (old : ScriptedTimers) (fuel : ℕ) (ending : End PolledValue PolledValue)
    (new : ScriptedTimers) : Type 0 where
  pub backoff : Backoff
  pub min_is : backoff.min_delay ≡ min
  pub max_is : backoff.max_delay ≡ max
  pub max_wait_is : backoff.max_wait ≡ max_wait
  pub waits : Waits backoff Says Makes (λ timers. timers.unready) Tells old fuel ending new

-- A waiter of these delays walked over the timers, and this is how it ended.
pub record EndsBy (min max max_wait : ℕ) (old : ScriptedTimers) (fuel : ℕ) (ending : WaitEnding)
    (new : ScriptedTimers) : Type 0 where
  pub answered : End PolledValue PolledValue
  pub walks : WalksBy min max max_wait old fuel answered new
  pub ends : ending_of answered ≡ Some ending

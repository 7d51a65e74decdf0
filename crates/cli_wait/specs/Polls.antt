-- The polls of a script.
use Rattle.std.specs.Prelude.{◌≡◌, ℕ, ◌-◌, min, List, length, Option, None, Some, Result, Ok, Err, slice_get}
use Rattle.smithy_types.specs.declared.acceptor.AcceptorState.{AcceptorState}
use Rattle.smithy_types.specs.declared.acceptor.AcceptorState.TheVariants.{NoAcceptorsMatched}
use Rattle.smithy_types.specs.declared.fault.SdkError.{SdkError}
use Rattle.smithy_types.specs.declared.fault.SdkError.TheVariants.{ConstructionFailure, TimeoutError, DispatchFailure}
use Rattle.smithy_types.specs.declared.fault.SdkError.TheVariants.{ResponseError, ServiceError}
use Rattle.cli_wait.specs.declared.polls.PolledValue.{PolledValue}
use Rattle.cli_wait.specs.declared.polls.PollResult.{PollResult}
use Rattle.cli_wait.specs.declared.polls.PollResult.TheVariants.{Output, Service, Timeout}
use Rattle.cli_wait.specs.declared.polls.ScriptedPoll.{ScriptedPoll}

-- the poll of this number, counted from 1: the last one again behind it
abbrev pub poll_at : List ScriptedPoll → ℕ → Option ScriptedPoll
poll_at polls number = slice_get polls (min number (length polls) - 1)

-- how long that poll takes
abbrev pub nanos_of : Option ScriptedPoll → ℕ
nanos_of None = 0
nanos_of (Some poll) = poll.nanos

-- the error says that the poll timed out
abbrev pub IsTimeout : SdkError PolledValue → Type 0
IsTimeout (TimeoutError fault) = Unit {0}
IsTimeout (ConstructionFailure fault) = ⊥
IsTimeout (DispatchFailure fault) = ⊥
IsTimeout (ResponseError fault response) = ⊥
IsTimeout (ServiceError error response) = ⊥

-- the answer is an error of the model
abbrev pub IsModeled : PolledValue → SdkError PolledValue → Type 0
IsModeled value (ServiceError error response) = error ≡ value
IsModeled value (ConstructionFailure fault) = ⊥
IsModeled value (TimeoutError fault) = ⊥
IsModeled value (DispatchFailure fault) = ⊥
IsModeled value (ResponseError fault response) = ⊥

-- what a poll with this result and this state of its acceptors answers
abbrev pub IsAnswer : PollResult → AcceptorState → Result PolledValue (SdkError PolledValue) → Type 0
IsAnswer (Output output) state (Ok answer) = answer ≡ record { payload = output; state = state }
IsAnswer (Output output) state (Err error) = ⊥
IsAnswer (Service modeled) state (Ok answer) = ⊥
IsAnswer (Service modeled) state (Err error) = IsModeled (record { payload = modeled; state = state }) error
IsAnswer Timeout state (Ok answer) = ⊥
IsAnswer Timeout state (Err error) = IsTimeout error

-- the same of a poll, and of none, which times out
abbrev pub Answers : Option ScriptedPoll → Result PolledValue (SdkError PolledValue) → Type 0
Answers None answer = IsAnswer Timeout NoAcceptorsMatched answer
Answers (Some poll) answer = IsAnswer poll.result poll.state answer

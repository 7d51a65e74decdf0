-- The count of the failures that an outside handed out.
use Rattle.std.specs.Prelude.{◌≡◌, ℕ, ◌-◌, ◌^◌, ◌≤◌, ◌<◌, ◌⊎◌, Bool, true, false, Result, Ok}
use Rattle.smithy_types.specs.declared.memory.OutOfMemory.{OutOfMemory}
use Rattle.outside.specs.Calls.{OutsideCall, Poll, Frame, Resolve}
use Rattle.outside.specs.declared.answers.IdentityPoll.{IdentityPoll}
use Rattle.outside.specs.declared.answers.IdentityPoll.TheVariants as identity
use Rattle.smithy_types.specs.declared.polled.Polled.{Polled}
use Rattle.smithy_types.specs.declared.polled.Polled.TheVariants as polled
use Rattle.outside.specs.declared.answers.Sent.{Sent}
use Rattle.outside.specs.declared.answers.Sent.TheVariants as sent

-- whether the answer is a failed transmission
abbrev pub sent_fails : Result Sent OutOfMemory → Bool
sent_fails (Ok (sent.Failed kind text)) = true
sent_fails _ = false

-- whether the answer is a failure of the body
abbrev pub frame_fails : Result Polled OutOfMemory → Bool
frame_fails (Ok (polled.Failed fault)) = true
frame_fails _ = false

-- whether the answer is a failed load of an identity
abbrev pub load_fails : Result IdentityPoll OutOfMemory → Bool
load_fails (Ok (identity.Failed text)) = true
load_fails _ = false

-- whether the call handed a failure out
abbrev pub hands_out_failure : OutsideCall → Bool
hands_out_failure (Poll answer) = sent_fails answer
hands_out_failure (Frame answer) = frame_fails answer
hands_out_failure (Resolve id answer) = load_fails answer
hands_out_failure _ = false

-- a count that has no room left counts as risen
abbrev pub HasRisen : ℕ → ℕ → Type 0
HasRisen old new = (old < new) ⊎ (new ≡ 2 ^ 64 - 1)

-- the count never falls, and rises where a failure was handed out
pub record Counts (old : ℕ) (call : OutsideCall) (new : ℕ) : Type 0 where
  pub never_falls : old ≤ new
  pub rises : hands_out_failure call ≡ true → HasRisen old new

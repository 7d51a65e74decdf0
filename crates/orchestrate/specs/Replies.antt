-- What of an answer the way on depends on.
use Rattle.std.specs.Prelude.{Bool, ℕ, true, false, Option, None, Some, cond, ◌≡◌}
use Rattle.run_grammar.specs.declared.kind.Kind.{Kind}
use Rattle.run_grammar.specs.declared.kind.Kind.TheVariants as kinds
use Rattle.run_grammar.specs.declared.kind.Role.{Role}
use Rattle.run_grammar.specs.declared.answer.Answer.{Answer}
use Rattle.run_grammar.specs.Entry.{can_wait, is_pending, same_role, sets_failure}
use Rattle.run_grammar.specs.Standing.{State}
use Rattle.run_grammar.specs.Tests.{answers_delay, answers_go, answers_go_or_no, answers_started, answers_not_streaming}
use Rattle.run_grammar.specs.Tests.{answers_read, answers_decided_yes, answers_decided_no_after, answers_decided_delay}
use Rattle.run_grammar.specs.Tests.{failed, delayed, went, went_on, started, not_streaming, body_read, decided_yes}
use Rattle.run_grammar.specs.Tests.{decided_no_after, decided_delay}
use Rattle.orchestrate.specs.declared.reply.Reply.{Reply}

-- the role, if its sleep was started
abbrev pub started_if : Bool → Role → Option Role
started_if true r = Some r
started_if false r = None

-- the role of a sleep that was started
abbrev pub started_of : Kind → Answer → Option Role
started_of (kinds.Start r) a = started_if (answers_started a) r
started_of _ a = None

-- whether the started sleep is that of this role
abbrev pub started_by : Option Role → Role → Bool
started_by None r = false
started_by (Some q) r = same_role r q

-- the number is that of the attempt that stands after the answer
abbrev pub reply_of : Kind → ℕ → Answer → Reply
reply_of k n a = record {
  pending = cond (can_wait k) (is_pending a) false;
  failed = sets_failure k n a;
  delayed = answers_delay a;
  granted = answers_go a;
  goes_on = answers_go_or_no a;
  started = started_of k a;
  not_streaming = answers_not_streaming a;
  read = answers_read a;
  again = answers_decided_yes a;
  pauses = answers_decided_no_after a;
  again_later = answers_decided_delay a;
}

-- the reply tells the tests of the last entry
pub record Tells (s : State) (r : Reply) : Type 0 where
  pub failing : failed s ≡ r.failed
  pub delaying : delayed s ≡ r.delayed
  pub going : went s ≡ r.granted
  pub going_on : went_on s ≡ r.goes_on
  pub starting : (role : Role) → started role s ≡ started_by r.started role
  pub streaming : not_streaming s ≡ r.not_streaming
  pub reading : body_read s ≡ r.read
  pub repeating : decided_yes s ≡ r.again
  pub pausing : decided_no_after s ≡ r.pauses
  pub repeating_later : decided_delay s ≡ r.again_later

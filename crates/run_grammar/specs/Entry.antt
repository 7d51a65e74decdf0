-- What an entry's question and answer are.
use Rattle.std.specs.Prelude.{Bool, true, false, cond, ℕ, ◌==◌, Option, Some, is_some}
use Rattle.smithy_context.specs.Hooks.{writes_outcome}
use Rattle.smithy_context.specs.declared.intercept.Change.{Change}
use Rattle.smithy_context.specs.declared.intercept.Change.TheVariants as changes
use Rattle.smithy_context.specs.declared.intercept.HookAnswer.{HookAnswer}
use Rattle.smithy_types.specs.declared.fault.Outcome.{Outcome}
use Rattle.smithy_types.specs.declared.fault.Outcome.TheVariants as outcomes
use Rattle.run_grammar.specs.declared.kind.Role.{Role}
use Rattle.run_grammar.specs.declared.kind.Role.TheVariants as roles
use Rattle.run_grammar.specs.declared.kind.Abandonable.TheVariants as abandoned
use Rattle.run_grammar.specs.declared.kind.Kind.{Kind}
use Rattle.run_grammar.specs.declared.kind.Kind.TheVariants as kinds
use Rattle.run_grammar.specs.declared.question.Question.{Question}
use Rattle.run_grammar.specs.declared.answer.Answer.{Answer}
use Rattle.run_grammar.specs.declared.answer.Answer.TheVariants as answers
use Rattle.run_grammar.specs.declared.answer.Entry.{Entry}
use Rattle.run_grammar.specs.Question.{kind_of_question}

-- the kind of an entry's question
abbrev pub kind_of : Entry → Kind
kind_of e = kind_of_question e.question

-- a question with its answer
abbrev pub entry : Question → Answer → Entry
entry q a = record { question = q; answer = a }

-- whether two sleeps have one role
abbrev pub same_role : Role → Role → Bool
same_role roles.Operation roles.Operation = true
same_role roles.Attempt roles.Attempt = true
same_role roles.Send roles.Send = true
same_role roles.Retry roles.Retry = true
same_role roles.LongPoll roles.LongPoll = true
same_role _ _ = false

-- the kinds that can answer Pending
abbrev pub can_wait : Kind → Bool
can_wait kinds.Load = true
can_wait (kinds.Wait r) = true
can_wait kinds.Choose = true
can_wait kinds.Endpoint = true
can_wait kinds.Transmit = true
can_wait kinds.Body = true
can_wait _ = false

-- whether the answer is that nothing is there yet
abbrev pub is_pending : Answer → Bool
is_pending answers.Pending = true
is_pending _ = false

-- answered Pending, by a kind that can
unfoldable pub pending : Entry → Bool
pending e = cond (can_wait (kind_of e)) (is_pending e.answer) false

-- whether the answer is that a sleep is over
abbrev pub is_ready : Answer → Bool
is_ready answers.Ready = true
is_ready _ = false

-- the entry says that a sleep is over
unfoldable pub ready : Entry → Bool
ready e = is_ready e.answer

-- a deadline or a long poll may be absent (timeout.rs, `MaybeTimeoutConfig::new`; orchestrator.rs, `try_op`)
abbrev pub may_be_absent : Kind → Bool
may_be_absent (kinds.Start roles.Operation) = true
may_be_absent (kinds.Start roles.Attempt) = true
may_be_absent (kinds.Start roles.LongPoll) = true
may_be_absent _ = false

-- whether the question asks a deadline whether it is over
abbrev pub is_wait_of_deadline : Kind → Bool
is_wait_of_deadline (kinds.Wait roles.Operation) = true
is_wait_of_deadline (kinds.Wait roles.Attempt) = true
is_wait_of_deadline _ = false

-- whether the outcome is a failure
abbrev pub is_failed : Outcome → Bool
is_failed (outcomes.Failed fault) = true
is_failed (outcomes.Output payload) = false

-- whether the change writes a failure as the outcome
abbrev pub writes_failure : Option Change → Bool
writes_failure (Some (changes.Outcome o)) = is_failed o
writes_failure _ = false

-- a hook fails by its text; a completion hook also by the failure that it writes (interceptors.rs)
abbrev pub hook_fails : Kind → HookAnswer → Bool
hook_fails (kinds.Hook h) a = cond (is_some a.failure) true (cond (writes_outcome h) (writes_failure a.change) false)
hook_fails _ a = is_some a.failure

-- the answer sets a failure where the attempt of this number stands (orchestrator.rs, `halt_on_err!` and
-- `continue_on_err!`). A No refuses the first attempt, before which the number is 0; it refuses no later one.
abbrev pub sets_failure : Kind → ℕ → Answer → Bool
sets_failure k n answers.Absent = cond (may_be_absent k) false true
sets_failure k n (answers.Failed text) = true
sets_failure k n (answers.ConnectorFailed kind text) = true
sets_failure k n answers.No = n == 0
sets_failure k n (answers.Hooked a) = hook_fails k a
sets_failure k n (answers.Outcome o) = is_failed o
sets_failure k n answers.Ready = is_wait_of_deadline k
sets_failure k n _ = false

-- the entry sets a failure; no entry whose answer is No changes the number
unfoldable pub fails : ℕ → Entry → Bool
fails n e = sets_failure (kind_of e) n e.answer

-- the kind that gives up a kind that is pending (timeout.rs, where the cut future is dropped)
abbrev pub abandon_of : Kind → Kind
abandon_of kinds.Load = kinds.Abandon abandoned.Load
abandon_of kinds.Choose = kinds.Abandon abandoned.Choose
abandon_of kinds.Endpoint = kinds.Abandon abandoned.Endpoint
abandon_of kinds.Transmit = kinds.Abandon abandoned.Transmit
abandon_of kinds.Body = kinds.Abandon abandoned.Body
abandon_of (kinds.Wait roles.Send) = kinds.Abandon abandoned.WaitSend
abandon_of (kinds.Wait roles.Retry) = kinds.Abandon abandoned.WaitRetry
abandon_of (kinds.Wait roles.LongPoll) = kinds.Abandon abandoned.WaitLongPoll
abandon_of _ = kinds.Park

-- What the grammar tests: the last entry, and what stands.
use Rattle.std.specs.Prelude.{Bool, true, false, Option, None, Some, is_some, cond}
use Rattle.run_grammar.specs.declared.production.Test.{Test}
use Rattle.run_grammar.specs.declared.production.Test.TheVariants as tests
use Rattle.run_grammar.specs.declared.kind.Role.{Role}
use Rattle.run_grammar.specs.declared.kind.Kind.{Kind}
use Rattle.run_grammar.specs.declared.answer.Answer.{Answer}
use Rattle.run_grammar.specs.declared.answer.Entry.{Entry}
use Rattle.run_grammar.specs.Entry.{kind_of, fails, same_role}
use Rattle.run_grammar.specs.Standing.{State}
use Rattle.run_grammar.specs.declared.kind.Kind.TheVariants as kinds
use Rattle.run_grammar.specs.declared.answer.Answer.TheVariants as answers
use Rattle.smithy_types.specs.declared.notes.Choice.TheVariants as choices
use Rattle.smithy_context.specs.Failures.{is_failure}
use Rattle.run_grammar.specs.Change.{loads_body, nanos_for, needs_token}

-- tests of the last entry
abbrev pub of_last : (Entry → Bool) → Option Entry → Bool
of_last test None = false
of_last test (Some e) = test e

-- the answer asks for a delay
abbrev pub answers_delay : Answer → Bool
answers_delay (answers.Delay n) = true
answers_delay _ = false

-- the answer lets an attempt go
abbrev pub answers_go : Answer → Bool
answers_go answers.Go = true
answers_go _ = false

-- the answer is Go or No, with both of which a further attempt goes on
abbrev pub answers_go_or_no : Answer → Bool
answers_go_or_no answers.Go = true
answers_go_or_no answers.No = true
answers_go_or_no _ = false

-- the answer is that a sleep was started
abbrev pub answers_started : Answer → Bool
answers_started answers.Started = true
answers_started _ = false

-- the answer is that the response's body has to be read
abbrev pub answers_not_streaming : Answer → Bool
answers_not_streaming answers.NotStreaming = true
answers_not_streaming _ = false

-- the answer has the bytes of the body
abbrev pub answers_read : Answer → Bool
answers_read (answers.Read b) = true
answers_read _ = false

-- the decision is a further attempt at once
abbrev pub answers_decided_yes : Answer → Bool
answers_decided_yes (answers.Decided choices.Yes n) = true
answers_decided_yes _ = false

-- the decision is no further attempt, and a pause
abbrev pub answers_decided_no_after : Answer → Bool
answers_decided_no_after (answers.Decided (choices.NoAfter n) m) = true
answers_decided_no_after _ = false

-- the decision is a further attempt after a delay
abbrev pub answers_decided_delay : Answer → Bool
answers_decided_delay (answers.Decided (choices.Delay n) m) = true
answers_decided_delay _ = false

-- the question asks for the sleep of this role
abbrev pub is_start_of : Role → Kind → Bool
is_start_of r (kinds.Start q) = same_role r q
is_start_of r _ = false

-- the last entry set a failure
unfoldable pub failed : State → Bool
failed s = of_last (λ e. fails s.context.context.view.attempt e) s.last

-- the last entry asks for a delay
unfoldable pub delayed : State → Bool
delayed s = of_last (λ e. answers_delay e.answer) s.last

-- the last entry lets an attempt go
unfoldable pub went : State → Bool
went s = of_last (λ e. answers_go e.answer) s.last

-- the last entry lets a further attempt go on
unfoldable pub went_on : State → Bool
went_on s = of_last (λ e. answers_go_or_no e.answer) s.last

-- the last entry started the sleep of this role
unfoldable pub started : Role → State → Bool
started r s = of_last (λ e. cond (is_start_of r (kind_of e)) (answers_started e.answer) false) s.last

-- the last entry says that the response's body has to be read
unfoldable pub not_streaming : State → Bool
not_streaming s = of_last (λ e. answers_not_streaming e.answer) s.last

-- the last entry read the body
unfoldable pub body_read : State → Bool
body_read s = of_last (λ e. answers_read e.answer) s.last

-- the last entry decided on a further attempt at once
unfoldable pub decided_yes : State → Bool
decided_yes s = of_last (λ e. answers_decided_yes e.answer) s.last

-- the last entry decided on no further attempt, and on a pause
unfoldable pub decided_no_after : State → Bool
decided_no_after s = of_last (λ e. answers_decided_no_after e.answer) s.last

-- the last entry decided on a further attempt after a delay
unfoldable pub decided_delay : State → Bool
decided_delay s = of_last (λ e. answers_decided_delay e.answer) s.last

-- tests of the standing context
unfoldable pub endpoint_stands : State → Bool
endpoint_stands s = is_some s.context.endpoint

-- the request's body is loaded
unfoldable pub load_body : State → Bool
load_body s = loads_body s.context.context.view.settings

-- a checkpoint stands, from which a further attempt can begin
unfoldable pub checkpoint_stands : State → Bool
checkpoint_stands s = is_some s.context.context.checkpoint

-- a failure stands as the outcome
unfoldable pub failure_stands : State → Bool
failure_stands s = is_failure s.context.context.view.outcome

-- a length stands for the sleep of this role
unfoldable pub timeout_stands : Role → State → Bool
timeout_stands r s = is_some (nanos_for r s.context)

-- a further attempt needs a token of its own
unfoldable pub token_needed : State → Bool
token_needed s = needs_token s.context.context.view.settings

-- the meaning of a test
abbrev pub holds : Test → State → Bool
holds tests.Failed s = failed s
holds tests.Delayed s = delayed s
holds tests.Went s = went s
holds tests.WentOn s = went_on s
holds (tests.HasStarted r) s = started r s
holds tests.NotStreaming s = not_streaming s
holds tests.BodyRead s = body_read s
holds tests.DecidedYes s = decided_yes s
holds tests.DecidedNoAfter s = decided_no_after s
holds tests.DecidedDelay s = decided_delay s
holds tests.EndpointStands s = endpoint_stands s
holds tests.LoadBody s = load_body s
holds tests.CheckpointStands s = checkpoint_stands s
holds tests.FailureStands s = failure_stands s
holds (tests.TimeoutStands r) s = timeout_stands r s
holds tests.NeedsToken s = token_needed s

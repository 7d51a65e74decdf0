-- The steps of the bucket that a caller makes are those of its decisions, and that of closing its strategy.
use Rattle.std.specs.Prelude.{◌≡◌, ℕ, zero, suc, List, [], ◌∷◌, ◌++◌, Option, None, Some, IfSome, Result}
use Rattle.retry_quota_cell.specs.Known.{Place}
use Rattle.cli_client_runs.specs.Running.{Ran}
use Rattle.client_retries.specs.Deciding.{paused_for}
use Rattle.retry_policy.specs.Decision.{Case, Decided, cost_for, decision, releasing}
use Rattle.retry_policy.specs.Standing.{standing_bucket, standing_retry}
use Rattle.retry_quota.specs.Book.{Book, cost_of}
use Rattle.retry_quota.specs.Calls.{QuotaCall, OnBucket, Settled, AskedLimiter, ToldLimiter, FoundBucket, FoundLimiter}
use Rattle.retry_quota.specs.History.{Done, Step}
use Rattle.retry_quota.specs.History as history
use Rattle.retry_quota.specs.declared.permit.Permit.{Permit}
use Rattle.run_grammar.specs.declared.answer.Answer.{Answer}
use Rattle.run_grammar.specs.declared.answer.Answer.TheVariants as answers
use Rattle.run_grammar.specs.declared.answer.Entry.{Entry}
use Rattle.run_grammar.specs.declared.question.Question.{Question}
use Rattle.run_grammar.specs.declared.question.Question.TheVariants as questions
use Rattle.cli_shell.specs.declared.status.PrintStatus.{PrintStatus}
use Rattle.smithy_context.specs.Failures.{is_failure}
use Rattle.smithy_context.specs.StandingLayers.{StandingLayers}
use Rattle.smithy_types.specs.declared.fault.Outcome.{Outcome}
use Rattle.smithy_types.specs.declared.notes.Choice.{Choice}
use Rattle.smithy_types.specs.declared.notes.DecideNote.{DecideNote}
use Rattle.smithy_types.specs.declared.notes.Reason.TheVariants.{Granted}
use Rattle.cli_fleet.specs.Working.{Worked}
use Rattle.cli_fleet.specs.declared.work.CallerWork.{CallerWork}

-- ---- the steps of the one bucket among the calls of a quota

-- a permit of another bucket changes nothing
abbrev pub settled_in : ℕ → Step → List history.Entry
settled_in zero step = record { step = step; reply = Done } ∷ []
settled_in (suc bucket) step = []

-- the step that a call makes of the one bucket, if it makes one
abbrev pub step_in : QuotaCall → List history.Entry
step_in (OnBucket bucket step reply) = record { step = step; reply = reply } ∷ []
step_in (Settled bucket step) = settled_in bucket step
step_in (AskedLimiter limiter now reason reply) = []
step_in (ToldLimiter limiter now throttled) = []
step_in (FoundBucket partition spec number) = []
step_in (FoundLimiter partition now number) = []

-- those of these calls, in their order
abbrev pub steps_in : List QuotaCall → List history.Entry
steps_in [] = []
steps_in (c ∷ calls) = step_in c ++ steps_in calls

-- ---- the steps of entries

-- The strategy's decision on what was handed, with the verdict, the moment and the word of the note, by the costs and
-- the reward that the bucket has, and with the replies of limiter and bucket that the note's reason shows.
pub record IsDecision (bucket : Book) (settings : StandingLayers) (outcome : Option Outcome) (attempt : ℕ)
    (choice : Choice) (note : DecideNote) (held : Option Permit) (d : Decided) : Type 0 where
  pub by : Case
  pub retry : standing_retry settings ≡ Some by.retry
  pub number : standing_bucket settings ≡ Some by.bucket
  pub failed : by.failed ≡ is_failure outcome
  pub attempts : by.attempt ≡ attempt
  pub verdict : by.verdict ≡ note.verdict
  pub moment : by.now ≡ note.moment
  pub word : by.word ≡ note.word
  pub cost : by.cost ≡ cost_for (λ kind. cost_of kind bucket) note.verdict
  pub reward : by.reward ≡ bucket.reward
  pub reply : Result (Unit {0}) ℕ
  pub grant : Option ℕ
  pub granted : IfSome grant (λ amount. note.reason ≡ Granted amount)
  pub decided : d ≡ decision by held reply grant
  pub choice_is : choice ≡ paused_for d.choice d.long_poll
  pub reason : note.reason ≡ d.reason

-- a decision with a note makes the steps of its calls, and holds what it says; an answer without one makes none
abbrev pub AnswerSteps : Book → StandingLayers → Option Outcome → ℕ → Answer → Option Permit → List history.Entry
    → Option Permit → Type 0
AnswerSteps bucket settings outcome attempt (answers.Decided choice (Some note)) held steps after =
    (d : Decided) × IsDecision bucket settings outcome attempt choice note held d × (steps ≡ steps_in d.calls)
    × (after ≡ d.held)
AnswerSteps bucket settings outcome attempt _ held steps after = (steps ≡ []) × (after ≡ held)

-- only decisions make steps
abbrev pub EntrySteps : Book → Question → Answer → Option Permit → List history.Entry → Option Permit → Type 0
EntrySteps bucket (questions.Decide settings request response outcome attempt) a held steps after =
    AnswerSteps bucket settings outcome attempt a held steps after
EntrySteps bucket _ a held steps after = (steps ≡ []) × (after ≡ held)

-- those of a list, one entry after another
abbrev pub LogSteps : Book → List Entry → Option Permit → List history.Entry → Option Permit → Type 0
LogSteps bucket [] held steps after = (steps ≡ []) × (after ≡ held)
LogSteps bucket (e ∷ l) held steps after =
    (first : List history.Entry) × (rest : List history.Entry) × (mid : Option Permit)
    × EntrySteps bucket e.question e.answer held first mid × LogSteps bucket l mid rest after × (steps ≡ first ++ rest)

-- those of invocations, one after another
abbrev pub RunsSteps : Book → List Ran → Option Permit → List history.Entry → Option Permit → Type 0
RunsSteps bucket [] held steps after = (steps ≡ []) × (after ≡ held)
RunsSteps bucket (r ∷ rs) held steps after =
    (first : List history.Entry) × (rest : List history.Entry) × (mid : Option Permit)
    × LogSteps bucket r.log held first mid × RunsSteps bucket rs mid rest after × (steps ≡ first ++ rest)

-- the steps at a bucket of all decisions, in order, and last that of a permit that is given back
pub record AreOfDecisions (bucket : Book) (runs : List Ran) (steps : List history.Entry) : Type 0 where
  pub made : List history.Entry
  pub held : Option Permit
  pub decisions : RunsSteps bucket runs None made held
  pub all : steps ≡ made ++ steps_in (releasing held)

-- so it is of every caller that has done its work
abbrev pub StepsAreDecisions : Type 0
StepsAreDecisions =
    (place : Place) (work : CallerWork) (text : List ℕ) (outcome : Option PrintStatus) (steps : List history.Entry)
    → (w : Worked place work text outcome steps) → AreOfDecisions place.opening.book w.plays.runs.runs steps

-- no other steps are those of the same runs over such a bucket
abbrev pub RunsTellSteps : Type 0
RunsTellSteps = (bucket : Book) (runs : List Ran) (steps others : List history.Entry)
    → AreOfDecisions bucket runs steps → AreOfDecisions bucket runs others → steps ≡ others

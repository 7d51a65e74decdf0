-- What a client's settings allow of attempts.
use Rattle.std.specs.Prelude.{◌≡◌, ℕ, ◌^◌, ◌<◌, ◌≤◌, max, List, ◌++◌, length, Some, Result, Ok, Err}
use Rattle.std.specs.List.{AllByRecursion}
use Rattle.laws_client.specs.Attempts.Deciding.{attempts_begun}
use Rattle.client_components.specs.Paying.{Pays, Prices}
use Rattle.orchestrate.specs.declared.execution.InvokeError.{InvokeError}
use Rattle.orchestrate.specs.declared.execution.InvokeError.TheVariants.{Sdk, Unfinished, WrongType, OutOfMemory}
use Rattle.retry_policy.specs.Standing.{standing_retry}
use Rattle.run_grammar.specs.Laws.{IsWhole}
use Rattle.run_grammar.specs.Standing.{start}
use Rattle.run_grammar.specs.declared.answer.Entry.{Entry}
use Rattle.run_grammar.specs.declared.question.Question.{Question}
use Rattle.run_grammar.specs.declared.question.Question.TheVariants as questions
use Rattle.smithy_types.specs.declared.config.RetryConfig.{RetryConfig}
use Rattle.smithy_types.specs.declared.kinds.StopPoint.{StopPoint}
use Rattle.smithy_types.specs.declared.payload.Payload.{Payload}

-- a decision stands under no setting that allows more than n attempts
abbrev pub AllowsAtMost : ℕ → Question → Type 0
AllowsAtMost n (questions.Decide settings request response outcome attempt) =
    (retry : RetryConfig) → standing_retry settings ≡ Some retry → retry.max_attempts ≤ n
AllowsAtMost n _ = Unit {0}

-- a list begins as many attempts at most as the settings of its decisions allow, or one
abbrev pub BeginsAtMostAllowed : List Entry → Type 0
BeginsAtMostAllowed l = (n : ℕ) → AllByRecursion (λ e. AllowsAtMost n e.question) l → attempts_begun l ≤ max 1 n

-- so does each whole run whose further attempts are paid for, at any prices
abbrev pub SettingsBoundAttempts : Type 0
SettingsBoundAttempts =
    (prices : Prices) (stop : StopPoint) (p : Payload) (l : List Entry) → IsWhole stop (start p) l → length l < 2 ^ 64
    → AllByRecursion (λ e. Pays prices e.question e.answer) l → BeginsAtMostAllowed l

-- the answer is that of a whole run
abbrev pub IsOfWholeRun : {X E : Type 0} → Result X (InvokeError E) → Type 0
IsOfWholeRun (Ok output) = Unit {0}
IsOfWholeRun (Err (Sdk error)) = Unit {0}
IsOfWholeRun (Err (WrongType payload)) = Unit {0}
IsOfWholeRun (Err Unfinished) = ⊥
IsOfWholeRun (Err OutOfMemory) = ⊥

-- a log grew by such a list
abbrev pub GrewAsAllowed : List Entry → List Entry → Type 0
GrewAsAllowed before log = (l : List Entry) × (log ≡ before ++ l) × BeginsAtMostAllowed l

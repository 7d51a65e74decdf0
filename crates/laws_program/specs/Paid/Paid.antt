-- The invocations that `client` prints pay for their attempts.
use Rattle.std.specs.Prelude.{◌≡◌, ℕ, ◌<◌, ◌^◌, List, ◌++◌, IfSome, map, slice_get}
use Rattle.std.specs.List.{AllByRecursion}
use Rattle.cli_client.specs.Client.{IsClientRun}
use Rattle.laws_client.specs.Retries.Attempting.{BeginsAtMostAllowed}
use Rattle.cli_client_runs.specs.Print.{buckets_text}
use Rattle.cli_client_runs.specs.Running.{Ran, invocations_text}
use Rattle.json_scripts.specs.declared.client.script.ClientScript.{ClientScript}
use Rattle.client_components.specs.Paying.{Pays, Prices, prices_of}
use Rattle.rate_limit.specs.Pace.{Pace}
use Rattle.retry_quota.specs.Book.{book_of, cost_of}
use Rattle.retry_quota.specs.Registers.{Registers, meaning_of}
use Rattle.run_grammar.specs.Laws.{IsWhole}
use Rattle.run_grammar.specs.Standing.{start}
use Rattle.cli_shell.specs.declared.status.PrintStatus.{PrintStatus}
use Rattle.smithy_types.specs.declared.kinds.ErrorKind.{ErrorKind}

-- Further attempts of an invocation are paid for at these prices, and a whole run begins as many
-- attempts at most as its settings allow.
pub record IsPaidFor (prices : Prices) (ran : Ran) : Type 0 where
  pub paid : AllByRecursion (λ e. Pays prices e.question e.answer) ran.log
  pub attempts : ran.invocation.fuel < 2 ^ 64 → IsWhole ran.invocation.stop (start ran.invocation.input) ran.log
      → BeginsAtMostAllowed ran.log

-- The text begins with the script's invocations, and the sums of the buckets that they leave. Each
-- invocation is paid for at the prices of these buckets, where the script's have the script's.
pub record PrintsPaidRuns (script : ClientScript) (text : List ℕ) : Type 0 where
  pub runs : List Ran
  pub these : map (λ (r : Ran). r.invocation) runs ≡ script.invocations
  pub quota : Registers Pace
  pub left : List ℕ
  pub text_is : text ≡ invocations_text 0 runs ++ (buckets_text 0 quota.books ++ left)
  pub prices : (bucket : ℕ)
      → IfSome (slice_get script.buckets bucket)
      (λ terms. (kind : ErrorKind) → (meaning_of quota).cost bucket kind ≡ cost_of kind (book_of terms))
  pub pay : AllByRecursion (IsPaidFor (prices_of (meaning_of quota))) runs

-- so it is of whatever a script's clients print
abbrev pub ClientsPay : Type 0
ClientsPay =
    (script : ClientScript) (text : List ℕ) (outcome : PrintStatus) → IsClientRun script text outcome
    → PrintsPaidRuns script text

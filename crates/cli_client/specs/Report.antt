-- What is told of a script's invocations.
use Rattle.std.specs.Prelude.{◌≡◌, ℕ, List, [], ◌∷◌, Option, option_map, slice_get, codes}
use Rattle.cli_client_runs.specs.Running.{Plays}
use Rattle.cli_client_runs.specs.declared.set.ClientSet.{ClientSet}
use Rattle.json_scripts.specs.declared.client.terms.InvocationRecord.{InvocationRecord}
use Rattle.json_forms.specs.Prints.{row, num, null_or}
use Rattle.retry_quota.specs.Book.{sums_of}
use Rattle.run_grammar.specs.declared.answer.Entry.{Entry}
use Rattle.json_print.specs.Print.{line}
use Rattle.client_scripted.specs.Clients.{ServiceWorld}
use Rattle.serde_json.specs.Data.{Data, string}
use Rattle.cli_shell.specs.declared.status.PrintStatus.{PrintStatus}
use Rattle.cli_shell.specs.declared.status.PrintStatus.TheVariants as outcomes
use Rattle.smithy_types.specs.declared.sums.Sums.{Sums}
use Rattle.json_values.specs.Values.{sums_data}
use Rattle.cli_client.specs.Tally.{Tallies}
use Rattle.cli_client.specs.declared.report.Report.{Report}
use Rattle.cli_client.specs.declared.report.Report.TheVariants as reports
use Rattle.cli_client.specs.declared.tally.Tally.{Tally}

-- the counts of a made script, and the sums of its bucket
unfoldable pub made_data : ℕ → ℕ → Tally → Option Sums → Data
made_data count seed t sums = row (string (codes "made") ∷ num count ∷ num seed ∷ num t.outputs ∷ num t.errors
    ∷ num t.calls ∷ null_or sums_data sums ∷ [])

module _ {C I : Type 0} (relates : ServiceWorld C I → List Entry → ServiceWorld C I → Type 0) where
  -- the invocations are counted, and their counts are the text
  pub record Counts (count seed : ℕ) (old : ClientSet C I) (invocations : List InvocationRecord) (new : ClientSet C I)
      (text : List ℕ) (outcome : PrintStatus) : Type 0 where
    pub counts : Tally
    pub tallies : Tallies relates old invocations counts new
    pub text_is : text ≡ line (made_data count seed counts (option_map sums_of (slice_get new.quota.books 0)))
    pub came : outcome ≡ outcomes.Ok

  -- All invocations are made in their order; the text is their print, or their counts.
  abbrev pub Reports : Report → ClientSet C I → List InvocationRecord → ClientSet C I → List ℕ → PrintStatus → Type 0
  Reports reports.Print old invocations new text outcome = Plays relates old invocations [] new text outcome
  Reports (reports.Counts count seed) old invocations new text outcome =
      Counts count seed old invocations new text outcome

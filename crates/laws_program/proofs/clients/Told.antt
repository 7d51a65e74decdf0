-- What is told of a script's invocations is determined.
use Rattle.std.proofs.Common.{◌≡◌, ◌∙◌, sym, ap, ℕ, ◌-◌, ◌^◌, min, List, ◌++◌}
use Rattle.std.specs.Prelude.{option_map, slice_get}
use Rattle.cli_client.specs.Report.{Counts, made_data}
use Rattle.cli_client.specs.Tally.{Tallies, calls_in, errors_in, outputs_in}
use Rattle.cli_client.specs.declared.tally.Tally.{Tally}
use Rattle.cli_client_runs.specs.Means.{ServedBy}
use Rattle.cli_client_runs.specs.Print.{buckets_text, loads_data}
use Rattle.cli_client_runs.specs.Running.{Plays, Ran, RunsAll, invocations_text, last_outcome}
use Rattle.cli_client_runs.specs.declared.set.ClientSet.{ClientSet}
use Rattle.json_scripts.specs.declared.client.terms.InvocationRecord.{InvocationRecord}
use Rattle.client_retries.specs.Meanings.{InterceptorMeans}
use Rattle.retry_quota.specs.Book.{sums_of}
use Rattle.json_print.specs.Print.{line}
use Rattle.cli_shell.specs.declared.status.PrintStatus.{PrintStatus}
use Rattle.cli_shell.specs.declared.status.PrintStatus.TheVariants as outcomes
use Rattle.smithy_context.specs.declared.context.InterceptorContext.{InterceptorContext}
use Rattle.smithy_types.specs.declared.notes.RetryAction.{RetryAction}
use Rattle.laws_determined.specs.Retries.Kinds.{RunsAlike}
use Rattle.laws_program.proofs.clients.Ran.{SetsAlike, loads_alike, ran_once}

-- one text and one outcome
pub record OneTelling (text other : List ℕ) (outcome status : PrintStatus) : Type 0 where
  pub text_is : text ≡ other
  pub outcome_is : outcome ≡ status

module _ {C I : Type 0} (says : C → InterceptorContext → RetryAction → RetryAction) (chain : InterceptorMeans I) (runs : RunsAlike chain.runs) where
  -- ---- their print

  record OnePrint (text other : List ℕ) (outcome status : PrintStatus) (new more : ClientSet C I) : Type 0 where
    text_is : text ≡ other
    outcome_is : outcome ≡ status
    sets : SetsAlike new more

  printed_once : (asked : List InvocationRecord) (before text other : List ℕ) (outcome status : PrintStatus) (old two new more : ClientSet C I) → SetsAlike old two
      → RunsAll (ServedBy says chain) old asked before new text outcome → RunsAll (ServedBy says chain) two asked before more other status → OnePrint text other outcome status new more
  printed_once asked before text other outcome status old two new more alike s t =
      let met = ran_once says chain runs s.runs t.runs old two new more alike (s.these ∙ sym t.these) s.made t.made in
      record {
        text_is = s.printed ∙ (ap (λ (rs : List Ran). before ++ invocations_text 0 rs) met.0 ∙ sym t.printed);
        outcome_is = s.came ∙ (ap (last_outcome outcomes.Ok) met.0 ∙ sym t.came);
        sets = met.1;
      }

  pub plays_once : (asked : List InvocationRecord) (before text other : List ℕ) (outcome status : PrintStatus) (old two new more : ClientSet C I) → SetsAlike old two
      → Plays (ServedBy says chain) old asked before new text outcome → Plays (ServedBy says chain) two asked before more other status → OneTelling text other outcome status
  plays_once asked before text other outcome status old two new more alike s t =
      let met = printed_once asked before s.printed t.printed outcome status old two new more alike s.runs t.runs in
      let loads = loads_alike new.clients.items more.clients.items met.sets.clients in
      record {
        text_is = s.text_is ∙ ((λ i. met.text_is i ++ buckets_text 0 (met.sets.quota.books i) ++ line (loads_data (min (loads i) (2 ^ 64 - 1)))) ∙ sym t.text_is);
        outcome_is = met.outcome_is;
      }

  -- ---- their counts

  same_tally : (t u : Tally) → t.outputs ≡ u.outputs → t.errors ≡ u.errors → t.calls ≡ u.calls → t ≡ u
  same_tally t u a b c = λ i. record { outputs = a i; errors = b i; calls = c i }

  tallied_once : (asked : List InvocationRecord) (t u : Tally) (old two new more : ClientSet C I) → SetsAlike old two
      → Tallies (ServedBy says chain) old asked t new → Tallies (ServedBy says chain) two asked u more → (t ≡ u) × SetsAlike new more
  tallied_once asked t u old two new more alike one other =
      let met = ran_once says chain runs one.runs other.runs old two new more alike (one.these ∙ sym other.these) one.made other.made in (
        same_tally t u (one.outputs ∙ (ap outputs_in met.0 ∙ sym other.outputs)) (one.errors ∙ (ap errors_in met.0 ∙ sym other.errors)) (one.calls ∙ (ap calls_in met.0 ∙ sym other.calls)),
        met.1,
      )

  pub counts_once : (count seed : ℕ) (asked : List InvocationRecord) (text other : List ℕ) (outcome status : PrintStatus) (old two new more : ClientSet C I) → SetsAlike old two
      → Counts (ServedBy says chain) count seed old asked new text outcome → Counts (ServedBy says chain) count seed two asked more other status → OneTelling text other outcome status
  counts_once count seed asked text other outcome status old two new more alike s t =
      let met = tallied_once asked s.counts t.counts old two new more alike s.tallies t.tallies in
      record {
        text_is = s.text_is ∙ ((λ i. line (made_data count seed (met.0 i) (option_map sums_of (slice_get (met.1.quota.books i) 0)))) ∙ sym t.text_is);
        outcome_is = s.came ∙ sym t.came;
      }

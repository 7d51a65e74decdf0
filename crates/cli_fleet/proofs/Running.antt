-- One invocation more.
use Rattle.std.proofs.Common.{◌≡◌, ◌∙◌, refl, sym, ap, ℕ, ◌+◌, List, [], ◌∷◌, ◌++◌, length, map, append_assoc, append-nil, arith}
use Rattle.std.specs.Prelude.{Option, None, Some}
use Rattle.cli_client_runs.proofs.Running.{asked, length_more, map_more, text_more, text_nil}
use Rattle.cli_client_runs.specs.Print.{invocation_text}
use Rattle.cli_client_runs.specs.Running.{Ran, invocations_text}
use Rattle.json_scripts.specs.declared.client.terms.InvocationRecord.{InvocationRecord}
use Rattle.client_scripted.specs.Clients.{ServiceMeaning}
use Rattle.outside_scripted.specs.declared.records.IdentityRecord.{IdentityRecord}
use Rattle.outside_scripted.specs.declared.scripted_outside.ScriptedOutside.{ScriptedOutside}
use Rattle.cli_shell.specs.declared.status.PrintStatus.{PrintStatus}
use Rattle.smithy_types.proofs.ChainLemmas.{chained_more}
use Rattle.smithy_types.specs.Chain.{Chained}
use Rattle.json_print.specs.World.Outcome.{came_to}
use Rattle.cli_fleet.specs.Invoking.{Runs, RunsAll, RunsOne, last_of}
use Rattle.cli_fleet.specs.Means.{CallerParts}

last_more : (o : Option PrintStatus) (rs : List Ran) (r : Ran) → last_of o (rs ++ r ∷ []) ≡ Some (came_to r.ending)
last_more o [] r = refl
last_more o (x ∷ rs) r = last_more (Some (came_to x.ending)) rs r

module _ {Q P L C I : Type 0} (means : ServiceMeaning ScriptedOutside Q C I P L) (identities : List IdentityRecord) where
  -- these were made so far, and as many are counted
  pub record RanSo (old : CallerParts Q P L C I) (before : List ℕ) (done : List InvocationRecord) (number : ℕ) (now : CallerParts Q P L C I) (text : List ℕ) (outcome : Option PrintStatus) : Type 0 where
    pub runs : List Ran
    pub made : Chained (Runs means identities) old runs now
    pub these : map asked runs ≡ done
    pub printed : text ≡ before ++ invocations_text 0 runs
    pub counted : number ≡ length runs
    pub came : outcome ≡ last_of None runs

  pub none_ran : (old : CallerParts Q P L C I) (before : List ℕ) → RanSo old before [] 0 old before None
  none_ran old before = record {
    runs = [];
    made = refl;
    these = refl;
    printed = sym (ap (λ l. before ++ l) (text_nil 0) ∙ append-nil before);
    counted = refl;
    came = refl;
  }

  pub one_more : (old now new : CallerParts Q P L C I) (before text after : List ℕ) (done : List InvocationRecord) (number next : ℕ) (outcome : Option PrintStatus) (came : PrintStatus) (i : InvocationRecord)
      → next ≡ number + 1 → RanSo old before done number now text outcome → RunsOne means identities number now i text new after came → RanSo old before (done ++ i ∷ []) next new after (Some came)
  one_more old now new before text after done number next outcome came i e h r =
      let one : Ran = record { invocation = i; log = r.log; ending = r.ending } in record {
        runs = h.runs ++ one ∷ [];
        made = chained_more (Runs means identities) old now new h.runs one h.made r.made;
        these = map_more h.runs one ∙ ap (λ l. l ++ i ∷ []) h.these;
        printed = r.printed ∙ ap (λ l. l ++ invocation_text number i.client r.log r.ending) h.printed
            ∙ append_assoc before (invocations_text 0 h.runs) (invocation_text number i.client r.log r.ending)
            ∙ ap (λ l. before ++ l) (sym (text_more 0 number h.runs one (h.counted ∙ omega arith)));
        counted = e ∙ ap (λ n. n + 1) h.counted ∙ sym (length_more h.runs one);
        came = ap Some r.came ∙ sym (last_more None h.runs one);
      }

  pub all_ran : (old now : CallerParts Q P L C I) (before text : List ℕ) (done invocations : List InvocationRecord) (number : ℕ) (outcome : Option PrintStatus)
      → RanSo old before done number now text outcome → done ≡ invocations → RunsAll means identities old invocations before now text outcome
  all_ran old now before text done invocations number outcome h e = record {
    runs = h.runs;
    made = h.made;
    these = h.these ∙ e;
    printed = h.printed;
    came = h.came;
  }

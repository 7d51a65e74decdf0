-- One invocation more is counted.
use Rattle.std.proofs.Common.{◌≡◌, ◌∙◌, refl, sym, ap, ◌+◌, cond, List, [], ◌∷◌, ◌++◌, length, map, arith}
use Rattle.std.proofs.lemmas.List.{length-set}
use Rattle.cli_client_runs.specs.Running.{InvokedIn, Ran, Runs}
use Rattle.cli_client_runs.specs.declared.set.ClientSet.{ClientSet}
use Rattle.json_scripts.specs.declared.client.terms.InvocationRecord.{InvocationRecord}
use Rattle.run_grammar.specs.declared.answer.Entry.{Entry}
use Rattle.client_scripted.specs.Clients.{ServiceWorld}
use Rattle.smithy_types.proofs.ChainLemmas.{chained_more}
use Rattle.cli_client.specs.Tally.{Tallies, TalliesOne, calls_in, errors_in, is_output, outputs_in}
use Rattle.cli_client.specs.declared.tally.Tally.{Tally}

abbrev asked : Ran → InvocationRecord
asked r = r.invocation

map_more : (rs : List Ran) (r : Ran) → map asked (rs ++ r ∷ []) ≡ map asked rs ++ asked r ∷ []
map_more [] r = refl
map_more (x ∷ rs) r = ap (λ l. asked x ∷ l) (map_more rs r)

outputs_more : (rs : List Ran) (r : Ran) → outputs_in (rs ++ r ∷ []) ≡ outputs_in rs + cond (is_output r.ending) 1 0
outputs_more [] r = omega arith
outputs_more (x ∷ rs) r = ap (λ n. cond (is_output x.ending) 1 0 + n) (outputs_more rs r) ∙ omega arith

errors_more : (rs : List Ran) (r : Ran) → errors_in (rs ++ r ∷ []) ≡ errors_in rs + cond (is_output r.ending) 0 1
errors_more [] r = omega arith
errors_more (x ∷ rs) r = ap (λ n. cond (is_output x.ending) 0 1 + n) (errors_more rs r) ∙ omega arith

calls_more : (rs : List Ran) (r : Ran) → calls_in (rs ++ r ∷ []) ≡ calls_in rs + length r.log
calls_more [] r = omega arith
calls_more (x ∷ rs) r = ap (λ n. length x.log + n) (calls_more rs r) ∙ omega arith

module _ {C I : Type 0} (relates : ServiceWorld C I → List Entry → ServiceWorld C I → Type 0) where
  -- these were made and counted so far
  pub record TalliedSo (old : ClientSet C I) (done : List InvocationRecord) (t : Tally) (now : ClientSet C I) : Type 0 where
    pub tallied : Tallies relates old done t now
    pub as_many : length now.clients.items ≡ length old.clients.items

  pub none_tallied : (old : ClientSet C I) (t : Tally) → t ≡ record { outputs = 0; errors = 0; calls = 0 } → TalliedSo old [] t old
  none_tallied old t e = record {
    tallied = record { runs = []; made = refl; these = refl; outputs = ap (λ x. x.outputs) e; errors = ap (λ x. x.errors) e; calls = ap (λ x. x.calls) e };
    as_many = refl;
  }

  as_many_after : (now new : ClientSet C I) (i : InvocationRecord) (log : List Entry) (ending : _) → InvokedIn relates now i log ending new → length new.clients.items ≡ length now.clients.items
  as_many_after now new i log ending r = ap length r.clients ∙ length-set now.clients.items i.client r.after

  pub one_more : (old now new : ClientSet C I) (done : List InvocationRecord) (i : InvocationRecord) (t next : Tally)
      → TalliedSo old done t now → TalliesOne relates now i t next new → TalliedSo old (done ++ i ∷ []) next new
  one_more old now new done i t next h r =
      let one : Ran = record { invocation = i; log = r.log; ending = r.ending } in
      let before = h.tallied in record {
        tallied = record {
          runs = before.runs ++ one ∷ [];
          made = chained_more (Runs relates) old now new before.runs one before.made r.made;
          these = map_more before.runs one ∙ ap (λ l. l ++ i ∷ []) before.these;
          outputs = ap (λ x. x.outputs) r.counted ∙ ap (λ n. n + cond (is_output r.ending) 1 0) before.outputs ∙ sym (outputs_more before.runs one);
          errors = ap (λ x. x.errors) r.counted ∙ ap (λ n. n + cond (is_output r.ending) 0 1) before.errors ∙ sym (errors_more before.runs one);
          calls = ap (λ x. x.calls) r.counted ∙ ap (λ n. n + length r.log) before.calls ∙ sym (calls_more before.runs one);
        };
        as_many = as_many_after now new i r.log r.ending r.made ∙ h.as_many;
      }

  pub all_tallied : (old now : ClientSet C I) (done invocations : List InvocationRecord) (t : Tally) → TalliedSo old done t now → done ≡ invocations → Tallies relates old invocations t now
  all_tallied old now done invocations t h e = record { runs = h.tallied.runs; made = h.tallied.made; these = h.tallied.these ∙ e; outputs = h.tallied.outputs; errors = h.tallied.errors; calls = h.tallied.calls }

-- One invocation more.
use Rattle.std.proofs.Common.{◌≡◌, ◌∙◌, refl, sym, ap, subst, ℕ, zero, suc, ◌+◌, List, [], ◌∷◌, ◌++◌, length, map, append_assoc, append-nil, add-one, arith}
use Rattle.std.proofs.lemmas.List.{length-set}
use Rattle.json_scripts.specs.declared.client.terms.InvocationRecord.{InvocationRecord}
use Rattle.run_grammar.specs.declared.answer.Entry.{Entry}
use Rattle.json_print.specs.declared.ending.Ending.{Ending}
use Rattle.client_scripted.specs.Clients.{ServiceWorld}
use Rattle.cli_shell.specs.declared.status.PrintStatus.{PrintStatus}
use Rattle.cli_shell.specs.declared.status.PrintStatus.TheVariants as outcomes
use Rattle.smithy_types.proofs.ChainLemmas.{chained_more}
use Rattle.smithy_types.specs.Chain.{Chained}
use Rattle.json_print.specs.World.Outcome.{came_to}
use Rattle.cli_client_runs.specs.Print.{invocation_text}
use Rattle.cli_client_runs.specs.Running.{InvokedIn, Ran, Runs, RunsAll, RunsOne, invocations_text, last_outcome}
use Rattle.cli_client_runs.specs.declared.set.ClientSet.{ClientSet}

abbrev pub asked : Ran → InvocationRecord
asked r = r.invocation

-- ---- lists of invocations that were made

pub map_more : (rs : List Ran) (r : Ran) → map asked (rs ++ r ∷ []) ≡ map asked rs ++ asked r ∷ []
map_more [] r = refl
map_more (x ∷ rs) r = ap (λ l. asked x ∷ l) (map_more rs r)

pub text_nil : (n : ℕ) → invocations_text n [] ≡ []
unfolding invocations_text
text_nil n = refl

text_cons : (n : ℕ) (r : Ran) (rs : List Ran) → invocations_text n (r ∷ rs) ≡ invocation_text n r.invocation.client r.log r.ending ++ invocations_text (n + 1) rs
unfolding invocations_text
text_cons n r rs = refl

pub text_more : (n m : ℕ) (rs : List Ran) (r : Ran) → m ≡ n + length rs → invocations_text n (rs ++ r ∷ []) ≡ invocations_text n rs ++ invocation_text m r.invocation.client r.log r.ending
text_more n m [] r h = text_cons n r [] ∙ ap (λ l. invocation_text n r.invocation.client r.log r.ending ++ l) (text_nil (n + 1)) ∙ append-nil (invocation_text n r.invocation.client r.log r.ending)
    ∙ ap (λ k. invocation_text k r.invocation.client r.log r.ending) (sym (h ∙ omega arith)) ∙ ap (λ l. l ++ invocation_text m r.invocation.client r.log r.ending) (sym (text_nil n))
text_more n m (x ∷ rs) r h = text_cons n x (rs ++ r ∷ [])
    ∙ ap (λ l. invocation_text n x.invocation.client x.log x.ending ++ l) (text_more (n + 1) m rs r (h ∙ omega arith))
    ∙ sym (append_assoc (invocation_text n x.invocation.client x.log x.ending) (invocations_text (n + 1) rs) (invocation_text m r.invocation.client r.log r.ending))
    ∙ ap (λ l. l ++ invocation_text m r.invocation.client r.log r.ending) (sym (text_cons n x rs))

last_more : (o : PrintStatus) (rs : List Ran) (r : Ran) → last_outcome o (rs ++ r ∷ []) ≡ came_to r.ending
last_more o [] r = refl
last_more o (x ∷ rs) r = last_more (came_to x.ending) rs r

pub length_more : (rs : List Ran) (r : Ran) → length (rs ++ r ∷ []) ≡ length rs + 1
length_more [] r = omega arith
length_more (x ∷ rs) r = ap suc (length_more rs r) ∙ omega arith

module _ {C I : Type 0} (relates : ServiceWorld C I → List Entry → ServiceWorld C I → Type 0) where
  -- these were made so far, and as many are counted
  pub record RanSo (old : ClientSet C I) (before : List ℕ) (done : List InvocationRecord) (number : ℕ) (now : ClientSet C I) (text : List ℕ) (outcome : PrintStatus) : Type 0 where
    pub runs : List Ran
    pub made : Chained (Runs relates) old runs now
    pub these : map asked runs ≡ done
    pub printed : text ≡ before ++ invocations_text 0 runs
    pub counted : number ≡ length runs
    pub came : outcome ≡ last_outcome outcomes.Ok runs
    pub as_many : length now.clients.items ≡ length old.clients.items

  pub none_ran : (old : ClientSet C I) (before : List ℕ) → RanSo old before [] 0 old before outcomes.Ok
  none_ran old before = record {
    runs = [];
    made = refl;
    these = refl;
    printed = sym (ap (λ l. before ++ l) (text_nil 0) ∙ append-nil before);
    counted = refl;
    came = refl;
    as_many = refl;
  }

  -- as many clients stand there
  as_many_after : (now new : ClientSet C I) (i : InvocationRecord) (log : List Entry) (ending : Ending) → InvokedIn relates now i log ending new → length new.clients.items ≡ length now.clients.items
  as_many_after now new i log ending r = ap length r.clients ∙ length-set now.clients.items i.client r.after

  pub one_more : (old now new : ClientSet C I) (before text after : List ℕ) (done : List InvocationRecord) (number next : ℕ) (outcome came : PrintStatus) (i : InvocationRecord)
      → next ≡ number + 1 → RanSo old before done number now text outcome → RunsOne relates number now i text new after came → RanSo old before (done ++ i ∷ []) next new after came
  one_more old now new before text after done number next outcome came i e h r =
      let one : Ran = record { invocation = i; log = r.log; ending = r.ending } in record {
        runs = h.runs ++ one ∷ [];
        made = chained_more (Runs relates) old now new h.runs one h.made r.made;
        these = map_more h.runs one ∙ ap (λ l. l ++ i ∷ []) h.these;
        printed = r.printed ∙ ap (λ l. l ++ invocation_text number i.client r.log r.ending) h.printed
            ∙ append_assoc before (invocations_text 0 h.runs) (invocation_text number i.client r.log r.ending)
            ∙ ap (λ l. before ++ l) (sym (text_more 0 number h.runs one (h.counted ∙ omega arith)));
        counted = e ∙ ap (λ n. n + 1) h.counted ∙ sym (length_more h.runs one);
        came = r.came ∙ sym (last_more outcomes.Ok h.runs one);
        as_many = as_many_after now new i r.log r.ending r.made ∙ h.as_many;
      }

  pub all_ran : (old now : ClientSet C I) (before text : List ℕ) (done invocations : List InvocationRecord) (number : ℕ) (outcome : PrintStatus)
      → RanSo old before done number now text outcome → done ≡ invocations → RunsAll relates old invocations before now text outcome
  all_ran old now before text done invocations number outcome h e = record {
    runs = h.runs;
    made = h.made;
    these = h.these ∙ e;
    printed = h.printed;
    came = h.came;
  }

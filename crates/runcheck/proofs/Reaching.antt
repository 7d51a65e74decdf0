-- From what a text tells to the run that it is the print of.
use Rattle.std.proofs.Common.{◌≡◌, ◌↔◌, ◌<◌, ◌≤◌, arith, ℕ, List, length, Option, Some, IfSome, ap, refl, sym, ◌∙◌, subst}
use Rattle.run_grammar.specs.Laws.{IsWhole}
use Rattle.run_grammar.specs.Standing.{standing, start, starting}
use Rattle.run_grammar.specs.declared.answer.Entry.{Entry}
use Rattle.json_print.specs.Print.{run_text}
use Rattle.json_print.specs.declared.head.RunHead.{RunHead}
use Rattle.runcheck.specs.Follow.{calls_of, log_of}
use Rattle.runcheck.specs.Reach.{IsPrintOf, Reach, whole_ending}
use Rattle.runcheck.specs.Told.{IsTold, told_by}
use Rattle.run_grammar.specs.declared.standing.Standing.{Standing}
use Rattle.smithy_types.specs.declared.payload.Payload.{Payload}
use Rattle.runcheck.specs.declared.follow.Followed.{Followed}
use Rattle.runcheck.specs.declared.judge.Verdict.TheVariants as verdicts
use Rattle.runcheck.specs.declared.told.Call.{Call}
use Rattle.runcheck.specs.declared.told.Told.{Told}
use Rattle.runcheck.proofs.Endings.{log_length}
use Rattle.runcheck.proofs.Following.{calls_back, log_back}

inside : (t u : Told) → Some t ≡ Some u → t ≡ u
inside t u h = cc

pub told_once : (text : List ℕ) (t u : Told) → IsTold text t → IsTold text u → t ≡ u
told_once text t u a b = inside t u (sym a.1 ∙ b.1)

pub reached : (text : List ℕ) (t : Told) → IsTold text t → IsPrintOf t.head (log_of (starting t.head.input) t.calls) text ↔ Reach text
reached text t i = (
  λ p. (t.head, log_of (starting t.head.input) t.calls, p, subst (λ cs. IsTold text (record { head = t.head; calls = cs })) (sym (calls_back t.calls (starting t.head.input))) i),
  λ r. the_print r,
)
  where
    the_print : Reach text → IsPrintOf t.head (log_of (starting t.head.input) t.calls) text
    the_print (h, log, p, j) =
        subst (λ (u : Told). IsPrintOf u.head (log_of (starting u.head.input) u.calls) text) (sym (told_once text t (record { head = h; calls = calls_of log }) i j))
        (subst (λ l. IsPrintOf h l text) (sym (log_back log (start h.input) p.whole.handed)) p)

pub judged : (V : Type 0) (head : RunHead) (log : List Entry) (text : List ℕ) → IsWhole head.stop (start head.input) log → length log ≤ head.fuel
    → V ↔ (text ≡ run_text head log (whole_ending head (standing (start head.input) log).context.context)) → V ↔ IsPrintOf head log text
judged V head log text w b (f, g) = (λ v. record { whole = w; within = b; printed = f v }, λ p. g p.printed)

-- a run of more entries than its fuel
pub too_long : (V : Type 0) (head : RunHead) (cs : List Call) (text : List ℕ) → head.fuel < length cs → (V → ⊥) → V ↔ IsPrintOf head (log_of (starting head.input) cs) text
too_long V head cs text b n = (
  λ v. absurd (n v),
  λ p. let e : length (log_of (starting head.input) cs) ≡ length cs = log_length cs (starting head.input) in absurd (omega (arith, p.within, e)),
)

pub no_is_not_yes : verdicts.No ≡ verdicts.Yes → ⊥
no_is_not_yes h = absurd (cc)

-- what was followed, judged by its print
pub judged_run : (V : Type 0) (head : RunHead) (input : Payload) (cs : List Call) (o : Option Followed) (f : Followed) (text : List ℕ) → input ≡ head.input → o ≡ Some f
    → IfSome o (λ f. f.entries.items ≡ log_of (starting input) cs)
    → IfSome o (λ f. f.standing ≡ (standing (start input) (log_of (starting input) cs)).context)
    → IfSome o (λ f. IsWhole head.stop (start input) (log_of (starting input) cs))
    → length cs ≤ head.fuel
    → V ↔ (text ≡ run_text head f.entries.items (whole_ending head f.standing.context))
    → V ↔ IsPrintOf head (log_of (starting head.input) cs) text
judged_run V head input cs o f text i e a b w n v =
    let a' : f.entries.items ≡ log_of (starting head.input) cs = subst (λ o. IfSome o (λ f. f.entries.items ≡ log_of (starting input) cs)) e a ∙ ap (λ p. log_of (starting p) cs) i in
    let b' : f.standing ≡ (standing (start head.input) (log_of (starting head.input) cs)).context =
    subst (λ o. IfSome o (λ f. f.standing ≡ (standing (start input) (log_of (starting input) cs)).context)) e b ∙ ap (λ p. (standing (start p) (log_of (starting p) cs)).context) i in
    let w' : IsWhole head.stop (start input) (log_of (starting input) cs) = subst (λ o. IfSome o (λ f. IsWhole head.stop (start input) (log_of (starting input) cs))) e w in
    let same : (text ≡ run_text head f.entries.items (whole_ending head f.standing.context))
    ≡ (text ≡ run_text head (log_of (starting head.input) cs) (whole_ending head (standing (start head.input) (log_of (starting head.input) cs)).context.context)) =
    ap (λ l. text ≡ run_text head l (whole_ending head f.standing.context)) a' ∙ ap (λ (s : Standing). text ≡ run_text head (log_of (starting head.input) cs) (whole_ending head s.context)) b' in
    let l : length (log_of (starting head.input) cs) ≤ head.fuel = let k : length (log_of (starting head.input) cs) ≡ length cs = log_length cs (starting head.input) in omega (arith, k, n) in
    judged V head (log_of (starting head.input) cs) text (subst (λ p. IsWhole head.stop (start p) (log_of (starting p) cs)) i w') l (subst (λ X. V ↔ X) same v)

pub reached_by : (V : Type 0) (text : List ℕ) (t : Told) → IsTold text t → V ↔ IsPrintOf t.head (log_of (starting t.head.input) t.calls) text → V ↔ Reach text
reached_by V text t i (f, g) = let r = reached text t i in (λ v. r.0 (f v), λ x. g (r.1 x))

-- In a whole run the attempts behind the first have their decisions.
use Rattle.std.proofs.Common.{◌≡◌, ◌∙◌, ap, refl, sym, subst, ℕ, zero, suc, ◌+◌, ◌≤◌, Bool, true, false, cond, List, [], ◌∷◌, ◌++◌, append_assoc, Option, inl, inr, arith}
use Rattle.std.specs.Prelude.{◌==◌}
use Rattle.std.proofs.lemmas.Bool.Decides.{nat_tests}
use Rattle.smithy_types.specs.declared.hook.Hook.TheVariants as hooks
use Rattle.smithy_types.specs.declared.kinds.StopPoint.{StopPoint}
use Rattle.run_grammar.specs.declared.production.Test.{Test}
use Rattle.run_grammar.specs.declared.production.Test.TheVariants as tests
use Rattle.run_grammar.specs.declared.kind.ConfigureStage.TheVariants as stages
use Rattle.run_grammar.specs.declared.kind.Role.{Role}
use Rattle.run_grammar.specs.declared.kind.Role.TheVariants as roles
use Rattle.run_grammar.specs.declared.kind.Kind.{Kind}
use Rattle.run_grammar.specs.declared.kind.Kind.TheVariants as kinds
use Rattle.run_grammar.specs.declared.answer.Answer.{Answer}
use Rattle.run_grammar.specs.declared.answer.Answer.TheVariants as answers
use Rattle.run_grammar.specs.declared.answer.Entry.{Entry}
use Rattle.run_grammar.specs.declared.question.Question.{Question}
use Rattle.run_grammar.specs.declared.question.Question.TheVariants as questions
use Rattle.run_grammar.specs.declared.standing.Standing.{Standing}
use Rattle.run_grammar.specs.Entry.{kind_of}
use Rattle.run_grammar.specs.Question.{nanos_of}
use Rattle.run_grammar.specs.Fits.{fits}
use Rattle.run_grammar.specs.Change.{changed, granted}
use Rattle.run_grammar.specs.Laws.{EachFits}
use Rattle.run_grammar.specs.Standing.{State, WellHanded, asked, standing, start, step}
use Rattle.run_grammar.specs.Tests.{answers_go, holds, went}
use Rattle.run_grammar.specs.Production.{Production, Nothing, Work, ◌⨟◌, Where, Under, End, Ended, Further}
use Rattle.run_grammar.specs.Words.{RoundsOf, Word}
use Rattle.run_grammar.specs.Grammar.{arm, armed, configured, finish, front, grant, hook, loop, op, round, run, settle}
use Rattle.run_grammar.proofs.Paths.{fits_of, handed_of}
use Rattle.laws_client.specs.Attempts.Deciding.{DecidesFrom, FurtherAttemptsAreDecided, HasDecision, attempts_begun, capped}
use Rattle.laws_client.proofs.attempts.Going.{Goes, round_goes, stands}
use Rattle.laws_client.proofs.attempts.Numbers.{attempt, grown, number}
use Rattle.laws_client.proofs.attempts.Once.{Never, begun_both, begun_never, never, never_scope, once_round, word_never}

-- ---- decisions in lists

from_less : (m n : ℕ) (q : Question) → capped m ≤ capped n → DecidesFrom n q → DecidesFrom m q
from_less m n (questions.Decide settings request response outcome number) le h = omega (arith, le, h)
from_less m n _ le h = absurd h

has_less : (m n : ℕ) (l : List Entry) → capped m ≤ capped n → HasDecision n l → HasDecision m l
has_less m n l le h =
    record { before = h.before; decision = h.decision; after = h.after; there = h.there; from = from_less m n h.decision.question le h.from; further = h.further }

has_front : (n : ℕ) (a b l : List Entry) → l ≡ a ++ b → HasDecision n a → HasDecision n l
has_front n a b l e h =
    record { before = h.before; decision = h.decision; after = h.after ++ b; there = e ∙ ap (λ m. m ++ b) h.there ∙ append_assoc h.before (h.decision ∷ h.after) b; from = h.from; further = h.further }

has_back : (n : ℕ) (a b l : List Entry) → l ≡ a ++ b → HasDecision n b → HasDecision n l
has_back n a b l e h =
    record { before = a ++ h.before; decision = h.decision; after = h.after; there = e ∙ ap (λ m. a ++ m) h.there ∙ sym (append_assoc a h.before (h.decision ∷ h.after)); from = h.from; further = h.further }

-- a decision is asked of the attempt that stands
asked_from : (n : ℕ) (u : State) → capped n ≤ stands u → DecidesFrom n (asked kinds.Decide u)
unfolding asked
asked_from n u h = omega (arith, h)

goes_has : (s : State) (l : List Entry) → WellHanded s l → Goes s l → HasDecision (attempt s.context) l
goes_has s l handed g =
    let u = standing s g.before in
    let q = (handed_of g.before (g.decision ∷ g.after) s (subst (WellHanded s) g.there handed)).1.0 in
    record {
      before = g.before;
      decision = g.decision;
      after = g.after;
      there = g.there;
      from = subst (DecidesFrom (attempt s.context)) (sym (q ∙ ap (λ k. asked k u) g.kind)) (asked_from (attempt s.context) u (grown s g.before));
      further = g.further;
    }

-- ---- rounds

-- each round but the last has its decision, and so many rounds begin no more attempts
abbrev Rounded : ℕ → State → List Entry → Type 0
Rounded n s l = (attempts_begun l ≤ n + 1) × ((m : ℕ) → suc m ≤ n → HasDecision (attempt s.context + m) l)

later : (x u y m : ℕ) → capped x ≤ capped u → capped (u + 1) ≤ capped y → capped (x + suc m) ≤ capped (y + m)
later x u y m h g = omega (arith, h, g)

rounds_decide : (stop : StopPoint) (ds : List Role) (n : ℕ) (x : End) (s : State) (l : List Entry) → WellHanded s l
    → RoundsOf (Word (round stop) ds) (Word (round stop) ds) n x s l → Rounded n s l
rounds_decide stop ds zero x s l handed (h, w) =
    let c = once_round stop ds x s l w in (omega (arith, c), λ m le. absurd (omega (arith, le)))
rounds_decide stop ds (suc n) x s l handed (a, b, e, v, w) =
    let hs = handed_of a b s (subst (WellHanded s) e handed) in
    let g = round_goes stop ds s a v in
    let r = rounds_decide stop ds n x (standing s a) b hs.1 w in
    let c = once_round stop ds Further s a v in
    let both = begun_both a b l e in
    let many = r.0 in
    (omega (arith, c, both, many), further hs.0 g r)
  where
    further : WellHanded s a → Goes s a → Rounded n (standing s a) b → (m : ℕ) → suc m ≤ suc n → HasDecision (attempt s.context + m) l
    further hs g r zero le =
        has_less (attempt s.context + zero) (attempt s.context) l (omega arith) (has_front (attempt s.context) a b l e (goes_has s a hs g))
    further hs g r (suc m) le =
        has_less (attempt s.context + suc m) (attempt (standing s a).context + m) l
        (later (attempt s.context) (attempt (standing s g.before).context) (attempt (standing s a).context) m (grown s g.before) g.next)
        (has_back (attempt (standing s a).context + m) a b l e (r.1 m (omega (arith, le))))

-- ---- the operation and the run

abbrev Decided : List Entry → Type 0
Decided l = (k : ℕ) → attempts_begun l ≡ k + 2 → HasDecision (k + 1) l

-- where the last entry lets the first attempt begin, one has a number
abbrev Tied : State → Type 0
Tied s = went s ≡ true → 1 ≤ attempt s.context

abbrev Good : Production → Type 0
Good p = (ds : List Role) (x : End) (s : State) (l : List Entry) → WellHanded s l → EachFits l → Word p ds x s l → Tied s → Decided l

first : (t : Bool) (s : Standing) → (attempt s == 0) ≡ t → 1 ≤ attempt (cond t (granted s) s)
first true s e = omega arith
first false s e = grind (arith, nat_tests)

by_go : (n : Option ℕ) (a : Answer) (s : Standing) → answers_go a ≡ true → 1 ≤ attempt (changed kinds.Initial n a s)
unfolding changed
by_go n answers.Go s h = first (attempt s == 0) s refl
by_go n _ s h = absurd (cc)

only_initial : (k : Kind) (a : Answer) → fits k a ≡ true → answers_go a ≡ true → k ≡ kinds.Initial
unfolding fits
only_initial kinds.Initial a f h = refl
only_initial k answers.Go f h = absurd (cc)
only_initial k _ f h = absurd (cc)

tied_step : (s : State) (e : Entry) → fits (kind_of e) e.answer ≡ true → Tied (step s e)
unfolding went step
tied_step s e f h =
    subst (λ k. 1 ≤ attempt (changed k (nanos_of e.question) e.answer s.context)) (sym (only_initial (kind_of e) e.answer f h)) (by_go (nanos_of e.question) e.answer s.context h)

tied_on : (l : List Entry) (s : State) → EachFits l → Tied s → Tied (standing s l)
tied_on [] s f h = h
tied_on (e ∷ l) s (f, g) h = tied_on l (step s e) g (tied_step s e f)

decided_never : (l : List Entry) → Never l → Decided l
decided_never l n k h = let e = begun_never l n in absurd (omega (arith, e, h))

decided_back : (a b l : List Entry) → l ≡ a ++ b → Never a → Decided b → Decided l
decided_back a b l e n d k h =
    let both = begun_both a b l e in
    let none = begun_never a n in
    has_back (k + 1) a b l e (d k (omega (arith, both, none, h)))

decided_front : (a b l : List Entry) → l ≡ a ++ b → Never b → Decided a → Decided l
decided_front a b l e n d k h =
    let both = begun_both a b l e in
    let none = begun_never b n in
    has_front (k + 1) a b l e (d k (omega (arith, both, none, h)))

good_never : (p : Production) → never p ≡ true → Good p
good_never p n ds x s l h f w t = decided_never l (word_never p n ds x s l w)

good_after : (p q : Production) → never p ≡ true → Good q → Good (p ⨟ q)
good_after p q n g ds x s l h f (inl (a, b, e, v, w)) t =
    let hs = handed_of a b s (subst (WellHanded s) e h) in
    let fs = fits_of a b (subst EachFits e f) in
    decided_back a b l e (word_never p n ds Ended s a v) (g ds x (standing s a) b hs.1 fs.1 w (tied_on a s fs.0 t))
good_after p q n g ds x s l h f (inr (e, w)) t = decided_never l (word_never p n ds x s l w)

good_before : (p q : Production) → Good p → never q ≡ true → Good (p ⨟ q)
good_before p q g n ds x s l h f (inl (a, b, e, v, w)) t =
    let hs = handed_of a b s (subst (WellHanded s) e h) in
    let fs = fits_of a b (subst EachFits e f) in
    decided_front a b l e (word_never q n ds x (standing s a) b w) (g ds Ended s a hs.0 fs.0 v t)
good_before p q g n ds x s l h f (inr (e, w)) t = g ds x s l h f w t

good_where : (test : Test) (p q : Production) → Good p → Good q → Good (Where test p q)
good_where test p q g k ds x s l h f w t =
    (elim (holds test s) as (λ b. cond b (Word p ds x s l) (Word q ds x s l) → Decided l) [ true ↦ λ v. g ds x s l h f v t | false ↦ λ v. k ds x s l h f v t ]) w

good_under : (d : Role) (p q : Production) → Good p → never q ≡ true → Good (Under d p q)
good_under d p q g n ds x s l h f (a, b, y, e, v, w) t =
    let hs = handed_of a b s (subst (WellHanded s) e h) in
    let fs = fits_of a b (subst EachFits e f) in
    decided_front a b l e (never_scope d (λ o m. Word q ds o (standing s a) m) (λ o m u. word_never q n ds o (standing s a) m u) y x b w) (g (d ∷ ds) y s a hs.0 fs.0 v t)

within : (x k n : ℕ) → 1 ≤ x → capped (k + 1) ≤ capped (x + k)
within x k n h = omega (arith, h)

good_loop : (stop : StopPoint) → Good (Where tests.Went (loop stop) Nothing)
good_loop stop ds x s l h f w t =
    (elim (went s) as (λ b. went s ≡ b → cond b (Word (loop stop) ds x s l) (Word Nothing ds x s l) → Decided l) [
      | true ↦ λ e v. of_rounds v.0 (t e) (rounds_decide stop ds v.0 x s l h v.1)
      | false ↦ λ e v. decided_never l (subst Never (sym v.1) tt)
    ]) refl w
  where
    of_rounds : (n : ℕ) → 1 ≤ attempt s.context → Rounded n s l → Decided l
    of_rounds n one r k is =
        let many = r.0 in
        has_less (k + 1) (attempt s.context + k) l (within (attempt s.context) k n one) (r.1 k (omega (arith, many, is)))

good_op : (stop : StopPoint) → Good (op stop)
good_op stop =
    let granted_loop = good_after grant (Where tests.Went (loop stop) Nothing) refl (good_loop stop) in
    good_after front (Where tests.Failed Nothing (grant ⨟ Where tests.Went (loop stop) Nothing)) refl
    (good_where tests.Failed Nothing (grant ⨟ Where tests.Went (loop stop) Nothing) (good_never Nothing refl) granted_loop)

good_worked : (stop : StopPoint) → Good (armed roles.Operation (op stop) settle ⨟ finish)
good_worked stop =
    good_before (armed roles.Operation (op stop) settle) finish
    (good_after (arm roles.Operation) (Where (tests.HasStarted roles.Operation) (Under roles.Operation (op stop) settle) (op stop)) refl
    (good_where (tests.HasStarted roles.Operation) (Under roles.Operation (op stop) settle) (op stop) (good_under roles.Operation (op stop) settle (good_op stop) refl) (good_op stop)))
    refl

good_configured : (p : Production) → Good p → Good (configured p)
good_configured p g =
    let halt : (q : Production) → Good q → Good (Where tests.Failed Nothing q) = λ q k. good_where tests.Failed Nothing q (good_never Nothing refl) k in
    let third = hook hooks.ReadBeforeExecutionOperation ⨟ Work (kinds.Configure stages.Final) ⨟ Where tests.Failed Nothing p in
    let second = hook hooks.ReadBeforeExecutionClient ⨟ Work (kinds.Configure stages.Operation) ⨟ Where tests.Failed Nothing third in
    good_after (Work (kinds.Configure stages.Client)) (Where tests.Failed Nothing second) refl (halt second
    (good_after (hook hooks.ReadBeforeExecutionClient) (Work (kinds.Configure stages.Operation) ⨟ Where tests.Failed Nothing third) refl
    (good_after (Work (kinds.Configure stages.Operation)) (Where tests.Failed Nothing third) refl (halt third
    (good_after (hook hooks.ReadBeforeExecutionOperation) (Work (kinds.Configure stages.Final) ⨟ Where tests.Failed Nothing p) refl
    (good_after (Work (kinds.Configure stages.Final)) (Where tests.Failed Nothing p) refl (halt p g)))))))

good_run : (stop : StopPoint) → Good (run stop)
unfolding run
good_run stop =
    good_configured (Where tests.FailureStands (arm roles.Operation ⨟ finish) (armed roles.Operation (op stop) settle ⨟ finish))
    (good_where tests.FailureStands (arm roles.Operation ⨟ finish) (armed roles.Operation (op stop) settle ⨟ finish) (good_never (arm roles.Operation ⨟ finish) refl) (good_worked stop))

pub decided : FurtherAttemptsAreDecided
unfolding went
decided stop p l n w is = good_run stop [] Ended (start p) l w.handed w.fitting w.run (λ h. absurd (cc)) n is

-- A production with no Again of its own never ends with one.
use Rattle.std.proofs.Common.{◌≡◌, refl, subst, ℕ, zero, suc, true, false, cond, List, [], ◌∷◌, inl, inr}
use Rattle.run_grammar.specs.declared.kind.Role.{Role}
use Rattle.run_grammar.specs.declared.answer.Entry.{Entry}
use Rattle.run_grammar.specs.Entry.{same_role}
use Rattle.run_grammar.specs.Standing.{State, standing}
use Rattle.run_grammar.specs.Tests.{holds}
use Rattle.run_grammar.specs.Production.{Production, Nothing, Work, ◌⨟◌, Where, Rounds, Again, InAttempt, Under, End, Ended, Further, CutBy}
use Rattle.run_grammar.specs.Words.{RoundsOf, ScopeEnds, Word, marked}
use Rattle.run_grammar.proofs.Finishing.{closed}
use Rattle.run_grammar.proofs.Watch.{both}

marked_further : (y : End) → Further ≡ marked y → y ≡ Further
marked_further Ended e = absurd (cc)
marked_further Further e = refl
marked_further (CutBy d i) e = absurd (cc)

rounds_end : (V W : End → State → List Entry → Type 0) (n : ℕ) (s : State) (l : List Entry) → RoundsOf V W n Further s l → ⊥
rounds_end V W zero s l (h, w) = cc
rounds_end V W (suc n) s l (a, b, e, v, w) = rounds_end W W n (standing s a) b w

scope_ends : (d : Role) (inner : End → List Entry → Type 0) → ((l : List Entry) → inner Further l → ⊥) → (y : End) (l : List Entry) → (y ≡ Further → ⊥) → ScopeEnds d inner y Further l → ⊥
scope_ends d inner f Ended l n (e, m) = cc
scope_ends d inner f Further l n (e, m) = n refl
scope_ends d inner f (CutBy c i) l n w =
    (elim (same_role d c) as (λ t. cond t (cond i (inner Further l) ((Further ≡ Ended) × (l ≡ []))) ((Further ≡ CutBy c i) × (l ≡ [])) → ⊥) [
      | true ↦ elim i as (λ t. cond t (inner Further l) ((Further ≡ Ended) × (l ≡ [])) → ⊥) [ true ↦ λ u. f l u | false ↦ λ u. let z = u.0 in cc ]
      | false ↦ λ u. let z = u.0 in cc
    ]) w

pub closed_ends : (p : Production) → closed p ≡ true → (ds : List Role) (s : State) (l : List Entry) → Word p ds Further s l → ⊥
closed_ends Nothing h ds s l (e, n) = cc
closed_ends Again h ds s l w = cc
closed_ends (Work k) h ds s l (inl (e, w)) = cc
closed_ends (Work k) h ds s l (inr (d, e, w)) = cc
closed_ends (p ⨟ q) h ds s l (inl (a, b, e, v, w)) = closed_ends q (both (closed p) (closed q) h).1 ds (standing s a) b w
closed_ends (p ⨟ q) h ds s l (inr (e, w)) = closed_ends p (both (closed p) (closed q) h).0 ds s l w
closed_ends (Where t p q) h ds s l w =
    let g = both (closed p) (closed q) h in
    (elim (holds t s) as (λ b. cond b (Word p ds Further s l) (Word q ds Further s l) → ⊥) [ true ↦ λ v. closed_ends p g.0 ds s l v | false ↦ λ v. closed_ends q g.1 ds s l v ]) w
closed_ends (Rounds p q) h ds s l (n, w) = rounds_end (Word p ds) (Word q ds) n s l w
closed_ends (InAttempt p) h ds s l (y, e, w) = closed_ends p h ds s l (subst (λ x. Word p ds x s l) (marked_further y e) w)
closed_ends (Under d p q) h ds s l (a, b, y, e, v, w) =
    let g = both (closed p) (closed q) h in
    scope_ends d (λ z m. Word q ds z (standing s a) m) (λ m u. closed_ends q g.1 ds (standing s a) m u) y b (λ z. closed_ends p g.0 (d ∷ ds) s a (subst (λ x. Word p (d ∷ ds) x s a) z v)) w

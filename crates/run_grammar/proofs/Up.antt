-- A word of the spot where a production begins is a word of it.
use Rattle.run_grammar.specs.Tests.{holds}
use Rattle.std.proofs.Common.{Bool, true, false, cond, ℕ, zero, suc, List, [], ◌∷◌, ◌++◌, ◌≡◌, ◌⊎◌, refl, sym, ap, ◌∙◌, subst, inl, inr, append_assoc, append-nil}
use Rattle.run_grammar.specs.declared.kind.Role.{Role}
use Rattle.run_grammar.specs.declared.kind.Kind.{Kind}
use Rattle.run_grammar.specs.declared.answer.Entry.{Entry}
use Rattle.run_grammar.specs.Entry.{same_role}
use Rattle.run_grammar.specs.Standing.{State, standing}
use Rattle.run_grammar.specs.Production.{Production, Nothing, Work, ◌⨟◌, Where, Rounds, Again, InAttempt, Under, End, Ended, Further, CutBy}
use Rattle.run_grammar.specs.Words.{marked, Word, WorkOf, CutOf, RoundsOf, ScopeEnds, is_ended, is_further}
use Rattle.run_grammar.specs.Machine.{Spot, AtEnd, AtAgain, At, Rest, Left, Out, cut, first, then_spot, then_rest, round_spot, round_rest, fresh_spot, under_spot, under_rest, within_spot, within_rest}
use Rattle.run_grammar.proofs.Spots.{RestWord, SpotWord, IsAt, Fine, carry_back}

whole_left : (l a b : List Entry) → l ≡ a ++ b → b ≡ [] → a ≡ l
whole_left l a b e n = sym (append-nil a) ∙ ap (λ m. a ++ m) (sym n) ∙ sym e

pub join : (l a b b1 b2 : List Entry) → l ≡ a ++ b → b ≡ b1 ++ b2 → l ≡ (a ++ b1) ++ b2
join l a b b1 b2 e f = e ∙ ap (λ m. a ++ m) f ∙ sym (append_assoc a b1 b2)

not_is_ended : (x y : End) → is_ended y ≡ false → x ≡ y → is_ended x ≡ false
not_is_ended x y h e = ap is_ended e ∙ h

not_is_further : (x y : End) → is_further y ≡ false → x ≡ y → is_further x ≡ false
not_is_further x y h e = ap is_further e ∙ h

-- p ⨟ q
then_rest_up : (d : Role) (r : Rest) (q : Production) (ds : List Role) (x : End) (s : State) (l : List Entry) → RestWord d (then_rest r q) ds x s l →
    ((a : List Entry) × (b : List Entry) × (l ≡ a ++ b) × RestWord d r ds Ended s a × Word q ds x (standing s a) b) ⊎ ((is_ended x ≡ false) × RestWord d r ds x s l)
then_rest_up d (Left r) q ds x s l v = v
then_rest_up d (Out i) q ds x s l v = inr (not_is_ended x (CutBy d i) refl v.0, v)

at_then_up : (k : Kind) (es : List Role) (r : Production) (q : Production) (ds : List Role) (x : End) (s : State) (l : List Entry) (W : End → List Entry → Type 0) →
    ((y : End) (m : List Entry) → SpotWord (At k es r) ds y s m → W y m) → SpotWord (At k es (r ⨟ q)) ds x s l →
    ((a : List Entry) × (b : List Entry) × (l ≡ a ++ b) × W Ended a × Word q ds x (standing s a) b) ⊎ ((is_ended x ≡ false) × W x l)
at_then_up k es r q ds x s l W up (inl (a, b, e, g, inl (b1, b2, f, v, w))) =
    inl (a ++ b1, b2, join l a b b1 b2 e f, up Ended (a ++ b1) (inl (a, b1, refl, g, v)), carry_back (λ t m. Word q ds x t m) s a b1 b2 w)
at_then_up k es r q ds x s l W up (inl (a, b, e, g, inr (h, v))) = inr (h, up x l (inl (a, b, e, g, v)))
at_then_up k es r q ds x s l W up (inr (d, a, b, e, g, v)) =
    elim (then_rest_up d (cut r d) q ds x (standing s a) b v) [
      | inl (b1, b2, f, v1, w) ↦ inl (a ++ b1, b2, join l a b b1 b2 e f, up Ended (a ++ b1) (inr (d, a, b1, refl, g, v1)), carry_back (λ t m. Word q ds x t m) s a b1 b2 w)
      | inr (h, v1) ↦ inr (h, up x l (inr (d, a, b, e, g, v1)))
    ]

then_up : (t u : Spot) (p q : Production) (ds : List Role) (x : End) (s : State) (l : List Entry) →
    ((y : End) (m : List Entry) → SpotWord t ds y s m → Word p ds y s m) → (SpotWord u ds x s l → Word q ds x s l) →
    SpotWord (then_spot t q u) ds x s l → Word (p ⨟ q) ds x s l
then_up AtEnd u p q ds x s l up uq v = inl ([], l, refl, up Ended [] (refl, refl), uq v)
then_up AtAgain u p q ds x s l up uq v = inr (not_is_ended x Further refl v.0, up x l v)
then_up (At k es r) u p q ds x s l up uq v = at_then_up k es r q ds x s l (λ y m. Word p ds y s m) up v

-- Rounds
round_rest_up : (d : Role) (r : Rest) (q : Production) (ds : List Role) (x : End) (s : State) (l : List Entry) → RestWord d (round_rest r q) ds x s l →
    ((n : ℕ) × (a : List Entry) × (b : List Entry) × (l ≡ a ++ b) × RestWord d r ds Further s a × RoundsOf (Word q ds) (Word q ds) n x (standing s a) b)
    ⊎ ((is_further x ≡ false) × RestWord d r ds x s l)
round_rest_up d (Left r) q ds x s l (zero, (h, v)) = inr (h, v)
round_rest_up d (Left r) q ds x s l (suc n, (a, b, e, v, w)) = inl (n, a, b, e, v, w)
round_rest_up d (Out i) q ds x s l v = inr (not_is_further x (CutBy d i) refl v.0, v)

at_rounds_up : (k : Kind) (es : List Role) (r q : Production) (ds : List Role) (x : End) (s : State) (l : List Entry) (W : End → State → List Entry → Type 0) →
    ((y : End) (m : List Entry) → SpotWord (At k es r) ds y s m → W y s m) → SpotWord (At k es (Rounds r q)) ds x s l →
    (n : ℕ) × RoundsOf W (Word q ds) n x s l
at_rounds_up k es r q ds x s l W up (inl (a, b, e, g, (zero, (h, v)))) = (zero, (h, up x l (inl (a, b, e, g, v))))
at_rounds_up k es r q ds x s l W up (inl (a, b, e, g, (suc n, (b1, b2, f, v, w)))) =
    (suc n, (a ++ b1, b2, join l a b b1 b2 e f, up Further (a ++ b1) (inl (a, b1, refl, g, v)), carry_back (λ t m. RoundsOf (Word q ds) (Word q ds) n x t m) s a b1 b2 w))
at_rounds_up k es r q ds x s l W up (inr (d, a, b, e, g, v)) =
    elim (round_rest_up d (cut r d) q ds x (standing s a) b v) [
      | inl (n, b1, b2, f, v1, w) ↦ (suc n, (a ++ b1, b2, join l a b b1 b2 e f, up Further (a ++ b1) (inr (d, a, b1, refl, g, v1)), carry_back (λ t m. RoundsOf (Word q ds) (Word q ds) n x t m) s a b1 b2 w))
      | inr (h, v1) ↦ (zero, (h, up x l (inr (d, a, b, e, g, v1))))
    ]

fresh_up : (u : Spot) (q : Production) (ds : List Role) (x : End) (s : State) (l : List Entry) → IsAt u →
    ((y : End) (m : List Entry) → SpotWord u ds y s m → Word q ds y s m) → SpotWord (fresh_spot u q) ds x s l →
    (n : ℕ) × RoundsOf (Word q ds) (Word q ds) n x s l
fresh_up AtEnd q ds x s l g up v = absurd g
fresh_up AtAgain q ds x s l g up v = absurd g
fresh_up (At k es r) q ds x s l g up v = at_rounds_up k es r q ds x s l (Word q ds) up v

one_more : (W V : End → State → List Entry → Type 0) (x : End) (s : State) (l : List Entry) → W Further s [] → (n : ℕ) × RoundsOf V V n x s l → (n : ℕ) × RoundsOf W V n x s l
one_more W V x s l w (n, r) = (suc n, ([], l, refl, w, r))

rounds_up : (t u : Spot) (p q : Production) (ds : List Role) (x : End) (s : State) (l : List Entry) → IsAt u →
    ((y : End) (m : List Entry) → SpotWord t ds y s m → Word p ds y s m) →
    ((y : End) (m : List Entry) → SpotWord u ds y s m → Word q ds y s m) →
    SpotWord (round_spot t q u) ds x s l → (n : ℕ) × RoundsOf (Word p ds) (Word q ds) n x s l
rounds_up AtEnd u p q ds x s l g up uq v = (zero, (not_is_further x Ended refl v.0, up x l v))
rounds_up AtAgain u p q ds x s l g up uq v = one_more (Word p ds) (Word q ds) x s l (up Further [] (refl, refl)) (fresh_up u q ds x s l g uq v)
rounds_up (At k es r) u p q ds x s l g up uq v = at_rounds_up k es r q ds x s l (Word p ds) up v

-- Under
under_cut_up : (same i : Bool) (d : Role) (q : Production) (ds : List Role) (x : End) (s : State) (l : List Entry) →
    RestWord d (cond same (Left (cond i q Nothing)) (Out i)) ds x s l →
    cond same (cond i (Word q ds x s l) ((x ≡ Ended) × (l ≡ []))) ((x ≡ CutBy d i) × (l ≡ []))
under_cut_up true true d q ds x s l v = v
under_cut_up true false d q ds x s l v = v
under_cut_up false i d q ds x s l v = v

under_rest_up : (c d : Role) (r : Rest) (q : Production) (ds : List Role) (x : End) (s : State) (l : List Entry) →
    RestWord d (under_rest (same_role c d) c r q) ds x s l →
    (a : List Entry) × (b : List Entry) × (y : End) × (l ≡ a ++ b) × RestWord d r (c ∷ ds) y s a × ScopeEnds c (λ z m. Word q ds z (standing s a) m) y x b
under_rest_up c d (Left r) q ds x s l v = v
under_rest_up c d (Out i) q ds x s l v = ([], l, CutBy d i, refl, (refl, refl), under_cut_up (same_role c d) i d q ds x s l v)

under_up : (c : Role) (t : Spot) (q : Production) (ds : List Role) (x : End) (s : State) (l : List Entry) (W : End → List Entry → Type 0) →
    ((y : End) (m : List Entry) → SpotWord t (c ∷ ds) y s m → W y m) → SpotWord (under_spot c t q) ds x s l →
    (a : List Entry) × (b : List Entry) × (y : End) × (l ≡ a ++ b) × W y a × ScopeEnds c (λ z m. Word q ds z (standing s a) m) y x b
under_up c AtEnd q ds x s l W up v = (l, [], Ended, sym (append-nil l), up Ended l (refl, v.1), (v.0, refl))
under_up c AtAgain q ds x s l W up v = (l, [], Further, sym (append-nil l), up Further l (refl, v.1), (v.0, refl))
under_up c (At k es r) q ds x s l W up (inl (a, b, e, g, (b1, b2, y, f, v, z))) =
    (a ++ b1, b2, y, join l a b b1 b2 e f, up y (a ++ b1) (inl (a, b1, refl, g, v)), carry_back (λ t n. ScopeEnds c (λ z m. Word q ds z t m) y x n) s a b1 b2 z)
under_up c (At k es r) q ds x s l W up (inr (d, a, b, e, g, v)) =
    let (b1, b2, y, f, v1, z) = under_rest_up c d (cut r d) q ds x (standing s a) b v in
    (a ++ b1, b2, y, join l a b b1 b2 e f, up y (a ++ b1) (inr (d, a, b1, refl, g, v1)), carry_back (λ t n. ScopeEnds c (λ z m. Word q ds z t m) y x n) s a b1 b2 z)

within_rest_up : (d : Role) (r : Rest) (ds : List Role) (x : End) (s : State) (l : List Entry) → RestWord d (within_rest r) ds x s l →
    (y : End) × (x ≡ marked y) × RestWord d r ds y s l
within_rest_up d (Left r) ds x s l v = v
within_rest_up d (Out i) ds x s l v = (CutBy d i, v.0, (refl, v.1))

within_up : (t : Spot) (ds : List Role) (x : End) (s : State) (l : List Entry) → SpotWord (within_spot t) ds x s l → (y : End) × (x ≡ marked y) × SpotWord t ds y s l
within_up AtEnd ds x s l v = (Ended, v.0, (refl, v.1))
within_up AtAgain ds x s l v = (Further, v.0, (refl, v.1))
within_up (At k es r) ds x s l (inl (a, b, f, g, (y, e, v))) = (y, e, inl (a, b, f, g, v))
within_up (At k es r) ds x s l (inr (d, a, b, f, g, v)) = let (y, e, w) = within_rest_up d (cut r d) ds x (standing s a) b v in (y, e, inr (d, a, b, f, g, w))

pub up : (p : Production) → Fine p → (ds : List Role) (x : End) (s : State) (l : List Entry) → SpotWord (first p ds s) ds x s l → Word p ds x s l
up Nothing g ds x s l w = w
up Again g ds x s l w = w
up (Work k) g ds x s l (inl (a, b, e, w, v)) = inl (v.0, subst (λ m. WorkOf k ds m) (whole_left l a b e v.1) w)
up (Work k) g ds x s l (inr (d, a, b, e, w, v)) = inr (d, v.0, subst (λ m. CutOf k d ds m) (whole_left l a b e v.1) w)
up (p ⨟ q) g ds x s l v = then_up (first p ds s) (first q ds s) p q ds x s l (λ y m w. up p g.0 ds y s m w) (λ w. up q g.1 ds x s l w) v
up (Where test p q) g ds x s l w =
    (elim (holds test s) as (λ b. SpotWord (cond b (first p ds s) (first q ds s)) ds x s l → cond b (Word p ds x s l) (Word q ds x s l))
    [ true ↦ λ v. up p g.0 ds x s l v | false ↦ λ v. up q g.1 ds x s l v ]) w
up (Rounds p q) g ds x s l v =
    rounds_up (first p ds s) (first q ds s) p q ds x s l (g.2 ds s) (λ y m w. up p g.0 ds y s m w) (λ y m w. up q g.1 ds y s m w) v
up (InAttempt p) g ds x s l v = let (y, e, w) = within_up (first p ds s) ds x s l v in (y, e, up p g ds y s l w)
up (Under c p q) g ds x s l v = under_up c (first p (c ∷ ds) s) q ds x s l (λ y m. Word p (c ∷ ds) y s m) (λ y m w. up p g.0 (c ∷ ds) y s m w) v

-- A word of a production is a word of the spot where it begins.
use Rattle.run_grammar.specs.Tests.{holds}
use Rattle.std.proofs.Common.{Bool, true, false, cond, ℕ, zero, suc, List, [], ◌∷◌, ◌++◌, ◌≡◌, refl, sym, ap, ◌∙◌, subst, inl, inr, append-nil}
use Rattle.run_grammar.specs.declared.kind.Role.{Role}
use Rattle.run_grammar.specs.declared.kind.Kind.{Kind}
use Rattle.run_grammar.specs.declared.answer.Entry.{Entry}
use Rattle.run_grammar.specs.Entry.{same_role}
use Rattle.run_grammar.specs.Standing.{State, standing}
use Rattle.run_grammar.specs.Production.{Production, Nothing, Work, ◌⨟◌, Where, Rounds, Again, InAttempt, Under, End, Ended, Further, CutBy}
use Rattle.run_grammar.specs.Words.{marked, Word, RoundsOf, ScopeEnds, is_ended, is_further}
use Rattle.run_grammar.specs.Machine.{Spot, AtEnd, AtAgain, At, Rest, Left, Out, cut, first, then_spot, then_rest, round_spot, round_rest, fresh_spot, under_spot, under_rest, within_spot, within_rest}
use Rattle.run_grammar.proofs.Spots.{RestWord, SpotWord, IsAt, Fine, at_nil, carry, split_more, not_ended, not_further}

-- p ⨟ q, where p's word ended
then_rest_down : (d : Role) (r : Rest) (q : Production) (ds : List Role) (x : End) (s : State) (a b : List Entry) →
    RestWord d r ds Ended s a → Word q ds x (standing s a) b → RestWord d (then_rest r q) ds x s (a ++ b)
then_rest_down d (Left r) q ds x s a b v w = inl (a, b, refl, v, w)
then_rest_down d (Out i) q ds x s a b v w = absurd (let e = v.0 in cc)

then_down : (t u : Spot) (q : Production) (ds : List Role) (x : End) (s : State) (l a b : List Entry) → l ≡ a ++ b →
    SpotWord t ds Ended s a → Word q ds x (standing s a) b → (Word q ds x s l → SpotWord u ds x s l) → SpotWord (then_spot t q u) ds x s l
then_down AtEnd u q ds x s l a b e v w dq = dq (at_nil (λ t m. Word q ds x t m) s l a b e v.1 w)
then_down AtAgain u q ds x s l a b e v w dq = absurd (let f = v.0 in cc)
then_down (At k es r) u q ds x s l a b e (inl (a1, a2, f, g, v)) w dq =
    inl (a1, a2 ++ b, split_more l a b a1 a2 e f, g, inl (a2, b, refl, v, carry (λ t m. Word q ds x t m) s a a1 a2 b f w))
then_down (At k es r) u q ds x s l a b e (inr (d, a1, a2, f, g, v)) w dq =
    inr (d, a1, a2 ++ b, split_more l a b a1 a2 e f, g, then_rest_down d (cut r d) q ds x (standing s a1) a2 b v (carry (λ t m. Word q ds x t m) s a a1 a2 b f w))

early_rest_down : (d : Role) (r : Rest) (q : Production) (ds : List Role) (x : End) (s : State) (l : List Entry) → is_ended x ≡ false →
    RestWord d r ds x s l → RestWord d (then_rest r q) ds x s l
early_rest_down d (Left r) q ds x s l h v = inr (h, v)
early_rest_down d (Out i) q ds x s l h v = v

early_down : (t u : Spot) (q : Production) (ds : List Role) (x : End) (s : State) (l : List Entry) → is_ended x ≡ false →
    SpotWord t ds x s l → SpotWord (then_spot t q u) ds x s l
early_down AtEnd u q ds x s l h v = absurd (not_ended x h v.0)
early_down AtAgain u q ds x s l h v = v
early_down (At k es r) u q ds x s l h (inl (a, b, e, g, v)) = inl (a, b, e, g, inr (h, v))
early_down (At k es r) u q ds x s l h (inr (d, a, b, e, g, v)) = inr (d, a, b, e, g, early_rest_down d (cut r d) q ds x (standing s a) b h v)

-- Rounds
last_rest_down : (d : Role) (r : Rest) (q : Production) (ds : List Role) (x : End) (s : State) (l : List Entry) → is_further x ≡ false →
    RestWord d r ds x s l → RestWord d (round_rest r q) ds x s l
last_rest_down d (Left r) q ds x s l h v = (zero, (h, v))
last_rest_down d (Out i) q ds x s l h v = v

last_down : (k : Kind) (es : List Role) (r q : Production) (ds : List Role) (x : End) (s : State) (l : List Entry) → is_further x ≡ false →
    SpotWord (At k es r) ds x s l → SpotWord (At k es (Rounds r q)) ds x s l
last_down k es r q ds x s l h (inl (a, b, e, g, v)) = inl (a, b, e, g, (zero, (h, v)))
last_down k es r q ds x s l h (inr (d, a, b, e, g, v)) = inr (d, a, b, e, g, last_rest_down d (cut r d) q ds x (standing s a) b h v)

more_rest_down : (d : Role) (r : Rest) (q : Production) (ds : List Role) (n : ℕ) (x : End) (s : State) (a b : List Entry) →
    RestWord d r ds Further s a → RoundsOf (Word q ds) (Word q ds) n x (standing s a) b → RestWord d (round_rest r q) ds x s (a ++ b)
more_rest_down d (Left r) q ds n x s a b v w = (suc n, (a, b, refl, v, w))
more_rest_down d (Out i) q ds n x s a b v w = absurd (let e = v.0 in cc)

more_down : (k : Kind) (es : List Role) (r q : Production) (ds : List Role) (n : ℕ) (x : End) (s : State) (l a b : List Entry) → l ≡ a ++ b →
    SpotWord (At k es r) ds Further s a → RoundsOf (Word q ds) (Word q ds) n x (standing s a) b → SpotWord (At k es (Rounds r q)) ds x s l
more_down k es r q ds n x s l a b e (inl (a1, a2, f, g, v)) w =
    inl (a1, a2 ++ b, split_more l a b a1 a2 e f, g, (suc n, (a2, b, refl, v, carry (λ t m. RoundsOf (Word q ds) (Word q ds) n x t m) s a a1 a2 b f w)))
more_down k es r q ds n x s l a b e (inr (d, a1, a2, f, g, v)) w =
    inr (d, a1, a2 ++ b, split_more l a b a1 a2 e f, g, more_rest_down d (cut r d) q ds n x (standing s a1) a2 b v (carry (λ t m. RoundsOf (Word q ds) (Word q ds) n x t m) s a a1 a2 b f w))

fresh_last : (u : Spot) (q : Production) (ds : List Role) (x : End) (s : State) (l : List Entry) → IsAt u → is_further x ≡ false →
    SpotWord u ds x s l → SpotWord (fresh_spot u q) ds x s l
fresh_last AtEnd q ds x s l p h v = absurd p
fresh_last AtAgain q ds x s l p h v = absurd p
fresh_last (At k es r) q ds x s l p h v = last_down k es r q ds x s l h v

fresh_more : (u : Spot) (q : Production) (ds : List Role) (n : ℕ) (x : End) (s : State) (l a b : List Entry) → IsAt u → l ≡ a ++ b →
    SpotWord u ds Further s a → RoundsOf (Word q ds) (Word q ds) n x (standing s a) b → SpotWord (fresh_spot u q) ds x s l
fresh_more AtEnd q ds n x s l a b p e v w = absurd p
fresh_more AtAgain q ds n x s l a b p e v w = absurd p
fresh_more (At k es r) q ds n x s l a b p e v w = more_down k es r q ds n x s l a b e v w

fresh_down : (u : Spot) (q : Production) (ds : List Role) (n : ℕ) (x : End) (s : State) (l : List Entry) → IsAt u →
    ((y : End) (m : List Entry) → Word q ds y s m → SpotWord u ds y s m) →
    RoundsOf (Word q ds) (Word q ds) n x s l → SpotWord (fresh_spot u q) ds x s l
fresh_down u q ds zero x s l p dq (h, v) = fresh_last u q ds x s l p h (dq x l v)
fresh_down u q ds (suc n) x s l p dq (a, b, e, v, w) = fresh_more u q ds n x s l a b p e (dq Further a v) w

last_round_down : (t u : Spot) (q : Production) (ds : List Role) (x : End) (s : State) (l : List Entry) → is_further x ≡ false →
    SpotWord t ds x s l → SpotWord (round_spot t q u) ds x s l
last_round_down AtEnd u q ds x s l h v = v
last_round_down AtAgain u q ds x s l h v = absurd (not_further x h v.0)
last_round_down (At k es r) u q ds x s l h v = last_down k es r q ds x s l h v

more_round_down : (t u : Spot) (q : Production) (ds : List Role) (n : ℕ) (x : End) (s : State) (l a b : List Entry) → l ≡ a ++ b →
    SpotWord t ds Further s a → RoundsOf (Word q ds) (Word q ds) n x (standing s a) b →
    (RoundsOf (Word q ds) (Word q ds) n x s l → SpotWord (fresh_spot u q) ds x s l) → SpotWord (round_spot t q u) ds x s l
more_round_down AtEnd u q ds n x s l a b e v w f = absurd (let g = v.0 in cc)
more_round_down AtAgain u q ds n x s l a b e v w f = f (at_nil (λ t m. RoundsOf (Word q ds) (Word q ds) n x t m) s l a b e v.1 w)
more_round_down (At k es r) u q ds n x s l a b e v w f = more_down k es r q ds n x s l a b e v w

rounds_down : (t u : Spot) (p q : Production) (ds : List Role) (n : ℕ) (x : End) (s : State) (l : List Entry) → IsAt u →
    ((y : End) (m : List Entry) → Word p ds y s m → SpotWord t ds y s m) →
    ((y : End) (m : List Entry) → Word q ds y s m → SpotWord u ds y s m) →
    RoundsOf (Word p ds) (Word q ds) n x s l → SpotWord (round_spot t q u) ds x s l
rounds_down t u p q ds zero x s l g dp dq (h, v) = last_round_down t u q ds x s l h (dp x l v)
rounds_down t u p q ds (suc n) x s l g dp dq (a, b, e, v, w) =
    more_round_down t u q ds n x s l a b e (dp Further a v) w (λ r. fresh_down u q ds n x s l g dq r)

-- Under
under_cut_down : (same i : Bool) (d : Role) (q : Production) (ds : List Role) (x : End) (s t : State) (a b : List Entry) → a ≡ [] → t ≡ standing s a →
    cond same (cond i (Word q ds x t b) ((x ≡ Ended) × (b ≡ []))) ((x ≡ CutBy d i) × (b ≡ [])) →
    RestWord d (cond same (Left (cond i q Nothing)) (Out i)) ds x s (a ++ b)
under_cut_down true true d q ds x s t [] b e f z = subst (λ u. Word q ds x u b) f z
under_cut_down true false d q ds x s t [] b e f z = z
under_cut_down false i d q ds x s t [] b e f z = z
under_cut_down same i d q ds x s t (c ∷ a) b e f z = absurd (cc)

under_out_down : (c d : Role) (i : Bool) (q : Production) (ds : List Role) (x y : End) (s t : State) (a b : List Entry) → y ≡ CutBy d i → a ≡ [] → t ≡ standing s a →
    ScopeEnds c (λ z m. Word q ds z t m) y x b → RestWord d (under_rest (same_role c d) c (Out i) q) ds x s (a ++ b)
under_out_down c d i q ds x y s t a b e n f z =
    under_cut_down (same_role c d) i d q ds x s t a b n f (subst (λ v. ScopeEnds c (λ z m. Word q ds z t m) v x b) e z)

under_rest_down : (c d : Role) (r : Rest) (q : Production) (ds : List Role) (x y : End) (s t : State) (a b : List Entry) → t ≡ standing s a →
    RestWord d r (c ∷ ds) y s a → ScopeEnds c (λ z m. Word q ds z t m) y x b → RestWord d (under_rest (same_role c d) c r q) ds x s (a ++ b)
under_rest_down c d (Left r) q ds x y s t a b f v z = (a, b, y, refl, v, subst (λ u. ScopeEnds c (λ z m. Word q ds z u m) y x b) f z)
under_rest_down c d (Out i) q ds x y s t a b f v z = under_out_down c d i q ds x y s t a b v.0 v.1 f z

both_nil : (l a b : List Entry) → l ≡ a ++ b → a ≡ [] → b ≡ [] → l ≡ []
both_nil l [] b e n m = e ∙ m
both_nil l (c ∷ a) b e n m = absurd (cc)

under_down : (c : Role) (t : Spot) (q : Production) (ds : List Role) (x y : End) (s : State) (l a b : List Entry) → l ≡ a ++ b →
    SpotWord t (c ∷ ds) y s a → ScopeEnds c (λ z m. Word q ds z (standing s a) m) y x b → SpotWord (under_spot c t q) ds x s l
under_down c AtEnd q ds x y s l a b e v z =
    let w = subst (λ u. ScopeEnds c (λ z m. Word q ds z (standing s a) m) u x b) v.0 z in (w.0, both_nil l a b e v.1 w.1)
under_down c AtAgain q ds x y s l a b e v z =
    let w = subst (λ u. ScopeEnds c (λ z m. Word q ds z (standing s a) m) u x b) v.0 z in (w.0, both_nil l a b e v.1 w.1)
under_down c (At k es r) q ds x y s l a b e (inl (a1, a2, f, g, v)) z =
    inl (a1, a2 ++ b, split_more l a b a1 a2 e f, g, (a2, b, y, refl, v, carry (λ t m. ScopeEnds c (λ z m. Word q ds z t m) y x m) s a a1 a2 b f z))
under_down c (At k es r) q ds x y s l a b e (inr (d, a1, a2, f, g, v)) z =
    inr (
      d,
      a1,
      a2 ++ b,
      split_more l a b a1 a2 e f,
      g,
      under_rest_down c d (cut r d) q ds x y (standing s a1) (standing s a) a2 b (carry (λ t m. standing s a ≡ t) s a a1 a2 b f refl) v z,
    )

within_rest_down : (d : Role) (r : Rest) (ds : List Role) (x y : End) (s : State) (l : List Entry) → x ≡ marked y → RestWord d r ds y s l → RestWord d (within_rest r) ds x s l
within_rest_down d (Left r) ds x y s l e v = (y, e, v)
within_rest_down d (Out i) ds x y s l e v = (e ∙ ap marked v.0, v.1)

within_down : (t : Spot) (ds : List Role) (x y : End) (s : State) (l : List Entry) → x ≡ marked y → SpotWord t ds y s l → SpotWord (within_spot t) ds x s l
within_down AtEnd ds x y s l e v = (e ∙ ap marked v.0, v.1)
within_down AtAgain ds x y s l e v = (e ∙ ap marked v.0, v.1)
within_down (At k es r) ds x y s l e (inl (a, b, f, g, v)) = inl (a, b, f, g, (y, e, v))
within_down (At k es r) ds x y s l e (inr (d, a, b, f, g, v)) = inr (d, a, b, f, g, within_rest_down d (cut r d) ds x y (standing s a) b e v)

pub down : (p : Production) → Fine p → (ds : List Role) (x : End) (s : State) (l : List Entry) → Word p ds x s l → SpotWord (first p ds s) ds x s l
down Nothing g ds x s l w = w
down Again g ds x s l w = w
down (Work k) g ds x s l (inl (e, w)) = inl (l, [], sym (append-nil l), w, (e, refl))
down (Work k) g ds x s l (inr (d, e, w)) = inr (d, l, [], sym (append-nil l), w, (e, refl))
down (p ⨟ q) g ds x s l (inl (a, b, e, v, w)) =
    then_down (first p ds s) (first q ds s) q ds x s l a b e (down p g.0 ds Ended s a v) w (λ u. down q g.1 ds x s l u)
down (p ⨟ q) g ds x s l (inr (h, w)) = early_down (first p ds s) (first q ds s) q ds x s l h (down p g.0 ds x s l w)
down (Where test p q) g ds x s l w =
    (elim (holds test s) as (λ b. cond b (Word p ds x s l) (Word q ds x s l) → SpotWord (cond b (first p ds s) (first q ds s)) ds x s l)
    [ true ↦ λ v. down p g.0 ds x s l v | false ↦ λ v. down q g.1 ds x s l v ]) w
down (Rounds p q) g ds x s l (n, w) =
    rounds_down (first p ds s) (first q ds s) p q ds n x s l (g.2 ds s) (λ y m v. down p g.0 ds y s m v) (λ y m v. down q g.1 ds y s m v) w
down (InAttempt p) g ds x s l (y, e, w) = within_down (first p ds s) ds x y s l e (down p g ds y s l w)
down (Under c p q) g ds x s l (a, b, y, e, w, z) = under_down c (first p (c ∷ ds) s) q ds x y s l a b e (down p g.0 (c ∷ ds) y s a w) z

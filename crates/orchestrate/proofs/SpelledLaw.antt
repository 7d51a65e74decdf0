-- A list of answers spells one run.
use Rattle.std.proofs.Common.{Bool, true, false, Option, ℕ, ◌≤◌, length, List, [], ◌∷◌, ◌++◌, ◌≡◌, ◌⊎◌, refl, sym, ap, ◌∙◌, subst, inl, inr, arith, append-nil, append_assoc, length-append}
use Rattle.smithy_types.specs.declared.kinds.StopPoint.{StopPoint}
use Rattle.std.proofs.lemmas.Option.{same_Some}
use Rattle.run_grammar.specs.declared.kind.Kind.{Kind}
use Rattle.run_grammar.specs.declared.answer.Answer.{Answer}
use Rattle.run_grammar.specs.declared.answer.Entry.{Entry}
use Rattle.run_grammar.specs.Entry.{entry, kind_of}
use Rattle.run_grammar.specs.Question.{kind_of_question}
use Rattle.run_grammar.specs.Standing.{State}
use Rattle.run_grammar.specs.Laws.{IsWhole, Begins}
use Rattle.run_grammar.proofs.TheLaws.{no_prefix_law, one_question_law}
use Rattle.orchestrate.specs.declared.script.ScriptAnswer.{ScriptAnswer}
use Rattle.orchestrate.specs.Script.{Replies, RepliesBy, IsPassed, Spelled, next_of, left_by}
use Rattle.orchestrate.specs.SpelledRuns.{IsRunWithin, OneSpelledRun}

-- what is replied, and whether an answer is taken, is fixed by the list and the kind
replies_once : (next : Option ScriptAnswer) (k : Kind) (a b : Answer) (t u : Bool) → RepliesBy next k a t → RepliesBy next k b u → (a ≡ b) × (t ≡ u)
replies_once next k a b true true (x, e, f, g) (y, h, i, j) = (g ∙ ap (λ z. z.answer) (same_Some x y (sym e ∙ h)) ∙ sym j, refl)
replies_once next k a b true false (x, e, f, g) (p, j) = absurd (subst (IsPassed k) e p f)
replies_once next k a b false true (p, g) (y, h, i, j) = absurd (subst (IsPassed k) h p i)
replies_once next k a b false false (p, g) (q, j) = (g ∙ sym j, refl)

same_entry : (e f : Entry) → e.question ≡ f.question → e.answer ≡ f.answer → e ≡ f
same_entry e f p q = subst (λ x. e ≡ entry x f.answer) p (subst (λ a. e ≡ entry e.question a) q refl)

begins_front : (stop : StopPoint) (s : State) (a b : List Entry) → Begins stop s (a ++ b) → Begins stop s a
begins_front stop s a b (n, w) = (b ++ n, subst (λ l. IsWhole stop s l) (append_assoc a b n) w)

-- one of the two goes on where the other ends
Fronts : List Entry → List Entry → Type 0
Fronts l m = ((n : List Entry) × (m ≡ l ++ n)) ⊎ ((n : List Entry) × (l ≡ m ++ n))

fronts_more : (e f : Entry) (l m : List Entry) → e ≡ f → Fronts l m → Fronts (e ∷ l) (f ∷ m)
unfolding Fronts
fronts_more e f l m h (inl (n, g)) = inl (n, subst (λ x. x ∷ m ≡ e ∷ (l ++ n)) h (ap (λ x. e ∷ x) g))
fronts_more e f l m h (inr (n, g)) = inr (n, subst (λ x. e ∷ l ≡ x ∷ (m ++ n)) h (ap (λ x. e ∷ x) g))

module _ (stop : StopPoint) (s : State) where
  -- behind a common front
  fronts : (k l m : List Entry) (xs ys zs : List ScriptAnswer) → Begins stop s (k ++ l) → Begins stop s (k ++ m) → Spelled xs l ys → Spelled xs m zs → Fronts l m
  unfolding Fronts
  fronts k [] m xs ys zs b c u v = inl (m, refl)
  fronts k (e ∷ l) [] xs ys zs b c u v = inr (e ∷ l, refl)
  fronts k (e ∷ l) (f ∷ m) xs ys zs b c (t, u, v) (y, w, x) =
      let b1 = subst (Begins stop s) (sym (append_assoc k (e ∷ []) l)) b in
      let c1 = subst (Begins stop s) (sym (append_assoc k (f ∷ []) m)) c in
      let q = one_question_law stop s k e f (begins_front stop s (k ++ e ∷ []) l b1) (begins_front stop s (k ++ f ∷ []) m c1) in
      let r = replies_once (next_of xs) (kind_of e) e.answer f.answer t y u (subst (λ j. Replies xs j f.answer y) (ap kind_of_question (sym q)) w) in
      let h = same_entry e f q r.0 in
      fronts_more e f l m h
      (fronts (k ++ e ∷ []) l m (left_by t xs) ys zs b1 (subst (λ z. Begins stop s ((k ++ z ∷ []) ++ m)) (sym h) c1) v (subst (λ z. Spelled (left_by z xs) m zs) (sym r.1) x))

  -- a whole list goes on in no list that begins a run
  no_more : (l n : List Entry) → IsWhole stop s l → Begins stop s (l ++ n) → n ≡ []
  no_more l n w (k, v) = front_nil n k (no_prefix_law stop s l (n ++ k) w (subst (IsWhole stop s) (append_assoc l n k) v))
    where
      front_nil : (a b : List Entry) → a ++ b ≡ [] → a ≡ []
      front_nil [] b e = refl
      front_nil (x ∷ a) b e = absurd (cc)

  begins_within : (fuel : ℕ) (l : List Entry) → IsRunWithin stop s fuel l → Begins stop s l
  begins_within fuel l (inl (h, w)) = ([], subst (IsWhole stop s) (sym (append-nil l)) w)
  begins_within fuel l (inr (h, b, n)) = b

  longer_nil : (l n : List Entry) (fuel : ℕ) → length l ≡ fuel → length (l ++ n) ≤ fuel → n ≡ []
  longer_nil l [] fuel h g = refl
  longer_nil l (x ∷ n) fuel h g = absurd (let e = length-append l (x ∷ n) in omega (arith, e, h, g))

  within : (fuel : ℕ) (l : List Entry) → IsRunWithin stop s fuel l → length l ≤ fuel
  within fuel l (inl (h, w)) = h
  within fuel l (inr (h, b, n)) = omega (arith, h)

  -- a run within the fuel goes on in no other
  ends_there : (fuel : ℕ) (l n : List Entry) → IsRunWithin stop s fuel l → IsRunWithin stop s fuel (l ++ n) → n ≡ []
  ends_there fuel l n (inl (h, w)) r = no_more l n w (begins_within fuel (l ++ n) r)
  ends_there fuel l n (inr (h, b, i)) r = longer_nil l n fuel h (within fuel (l ++ n) r)

  joined : (fuel : ℕ) (l m : List Entry) → IsRunWithin stop s fuel l → IsRunWithin stop s fuel m → Fronts l m → l ≡ m
  unfolding Fronts
  joined fuel l m r q (inl (n, e)) =
      let h = ends_there fuel l n r (subst (IsRunWithin stop s fuel) e q) in
      sym (e ∙ ap (λ x. l ++ x) h ∙ append-nil l)
  joined fuel l m r q (inr (n, e)) =
      let h = ends_there fuel m n q (subst (IsRunWithin stop s fuel) e r) in
      e ∙ ap (λ x. m ++ x) h ∙ append-nil m

pub one_spelled_run : OneSpelledRun
one_spelled_run stop s fuel xs ys zs l m r q u v =
    joined stop s fuel l m r q (fronts stop s [] l m xs ys zs (begins_within stop s fuel l r) (begins_within stop s fuel m q) u v)

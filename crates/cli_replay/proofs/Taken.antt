-- Answers that a run takes, entry by entry, and those that it leaves.
use Rattle.std.proofs.Common.{ℕ, suc, ◌+◌, ◌-◌, ◌≡◌, Bool, true, false, Option, None, Some, List, [], ◌∷◌, ◌++◌, drop, length, refl, sym, ap, ◌∙◌, subst, arith, length-append}
use Rattle.std.proofs.lemmas.Option.{same_Some}
use Rattle.run_grammar.specs.Entry.{kind_of}
use Rattle.run_grammar.specs.declared.answer.Entry.{Entry}
use Rattle.run_grammar.specs.declared.kind.Kind.{Kind}
use Rattle.orchestrate.specs.Script.{Replies, Spelled, left_by, next_of}
use Rattle.orchestrate.specs.declared.script.ScriptAnswer.{ScriptAnswer}
use Rattle.cli_replay.specs.LeftOver.{IsLeft, Tells}
use Rattle.cli_replay.specs.Taking.{Takes, until_by}
use Rattle.cli_replay.specs.declared.left_over.LeftOver.{LeftOver}

-- one more entry
pub takes_more : (xs ys zs : List ScriptAnswer) (l : List Entry) (e : Entry) (taken : Bool) (n u m v k w : ℕ) → zs ≡ left_by taken ys → k ≡ suc m → w ≡ until_by taken (suc m) v →
    Takes xs n u l ys m v → Replies ys (kind_of e) e.answer taken → Takes xs n u (l ++ e ∷ []) zs k w
takes_more xs ys zs [] e taken n u m v k w z a b (f, g, h) r = (
  taken,
  subst (λ (vs : List ScriptAnswer). Replies vs (kind_of e) e.answer taken) f r,
  (
    z ∙ ap (λ (vs : List ScriptAnswer). left_by taken vs) f,
    a ∙ ap suc g,
    b ∙ ap (λ (i : ℕ). until_by taken (suc i) v) g ∙ ap (λ (j : ℕ). until_by taken (suc n) j) h,
  ),
)
takes_more xs ys zs (x ∷ l) e taken n u m v k w z a b (t, q, f) r = (t, q, takes_more (left_by t xs) ys zs l e taken (suc n) (until_by t (suc n) u) m v k w z a b f r)

-- what is taken is spelled
pub spelled_by : (xs ys : List ScriptAnswer) (l : List Entry) (n u m v : ℕ) → Takes xs n u l ys m v → Spelled xs l ys
spelled_by xs ys [] n u m v (f, g, h) = f
spelled_by xs ys (e ∷ l) n u m v (t, q, f) = (t, q, spelled_by (left_by t xs) ys l (suc n) (until_by t (suc n) u) m v f)

-- the answers that are left stand last
last_ones : (xs ys : List ScriptAnswer) (l : List Entry) → Spelled xs l ys → (front : List ScriptAnswer) × (xs ≡ front ++ ys)
last_ones xs ys [] f = ([], sym f)
last_ones [] ys (e ∷ l) (true, r, h) = last_ones [] ys l h
last_ones [] ys (e ∷ l) (false, r, h) = last_ones [] ys l h
last_ones (x ∷ xs) ys (e ∷ l) (true, r, h) =
    let others = last_ones xs ys l h in
    (x ∷ others.0, ap (λ (zs : List ScriptAnswer). x ∷ zs) others.1)
last_ones (x ∷ xs) ys (e ∷ l) (false, r, h) = last_ones (x ∷ xs) ys l h

past_front : (front ys : List ScriptAnswer) → drop (length front) (front ++ ys) ≡ ys
past_front [] ys = refl
past_front (x ∷ front) ys = past_front front ys

front_length : (front ys : List ScriptAnswer) → length (front ++ ys) - length ys ≡ length front
front_length front ys = omega (arith, length-append front ys)

-- they are those behind as many as aren't left
pub left_from : (xs ys : List ScriptAnswer) (l : List Entry) → Spelled xs l ys → drop (length xs - length ys) xs ≡ ys
left_from xs ys l h =
    let found = last_ones xs ys l h in
    subst (λ (zs : List ScriptAnswer). drop (length zs - length ys) zs ≡ ys) (sym found.1)
    (ap (λ (n : ℕ). drop n (found.0 ++ ys)) (front_length found.0 ys) ∙ past_front found.0 ys)

no_kind : (k : Kind) → None ≡ Some k → ⊥
no_kind k h = absurd (cc)

no_answer : (x : ScriptAnswer) → None ≡ Some x → ⊥
no_answer x h = absurd (cc)

-- what a world tells of the answers that it had is what is told of its run
pub told_of : (answers left : List ScriptAnswer) (log : List Entry) (until n : ℕ) (told : Option LeftOver) → n ≡ length answers → Spelled answers log left →
    IsLeft (record { answers = left; log = log; until = until }) n told → Tells answers left log until told
told_of answers [] log until n None c s h = refl
told_of answers (x ∷ xs) log until n None c s h = absurd (no_answer x (sym h))
told_of answers [] log until n (Some l) c s (k, f, g, m) = absurd (no_kind l.kind k)
told_of answers (x ∷ xs) log until n (Some l) c s (k, f, g, m) = (
  l,
  refl,
  subst (λ (i : ℕ). drop i answers ≡ x ∷ xs) (sym (f ∙ ap (λ (i : ℕ). i - length (x ∷ xs)) c)) (left_from answers (x ∷ xs) log s),
  g ∙ c,
  sym (same_Some x.kind l.kind k),
  m,
)

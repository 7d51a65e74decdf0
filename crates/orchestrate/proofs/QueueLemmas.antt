-- A list that is kept the last one first.
use Rattle.std.proofs.Common.{◌+◌, ◌-◌, ◌<◌, true, false, Option, None, Some, IsSome, List, [], ◌∷◌, ◌++◌, length, reverse, get_or, slice_get, ◌≡◌, ◌↔◌, refl, sym, ap, ◌∙◌, subst, arith, append-nil, length-append}
use Rattle.std.specs.Prelude.{option_to_list}
use Rattle.std.proofs.lemmas.List.{reverse-append, reverse-reverse}
use Rattle.std.proofs.Math.Seq.{get_or-append_seam}
use Rattle.std.proofs.lemmas.Option.{slice_get_read}
use Rattle.orchestrate.specs.declared.script.ScriptAnswer.{ScriptAnswer}
use Rattle.orchestrate.specs.Script.{next_of, left_by}

last_of : (zs : List ScriptAnswer) (x : ScriptAnswer) → slice_get (zs ++ x ∷ []) (length (zs ++ x ∷ []) - 1) ≡ Some x
last_of zs x =
    let l : length (zs ++ x ∷ []) ≡ length zs + 1 = length-append zs (x ∷ []) in
    let i : length (zs ++ x ∷ []) - 1 ≡ length zs = omega (arith, l) in
    slice_get_read (zs ++ x ∷ []) (length (zs ++ x ∷ [])) (length (zs ++ x ∷ []) - 1) x refl (omega (arith, l))
    (sym (ap (λ k. get_or (zs ++ x ∷ []) k x) i ∙ get_or-append_seam zs x [] x))

reversed_first : (x : ScriptAnswer) (xs : List ScriptAnswer) → reverse (x ∷ xs) ≡ reverse xs ++ x ∷ []
reversed_first x xs = reverse-append (x ∷ []) xs

by_first : (xs : List ScriptAnswer) → slice_get (reverse xs) (length (reverse xs) - 1) ≡ next_of xs
by_first [] = refl
by_first (x ∷ xs) = subst (λ l. slice_get l (length l - 1) ≡ Some x) (sym (reversed_first x xs)) (last_of (reverse xs) x)

-- what stands last is the next one
pub last_is_next : (ys : List ScriptAnswer) → slice_get ys (length ys - 1) ≡ next_of (reverse ys)
last_is_next ys = subst (λ l. slice_get l (length l - 1) ≡ next_of (reverse ys)) (reverse-reverse ys) (by_first (reverse ys))

no_item : false ≡ true → ⊥
no_item h = absurd (cc)

-- what is taken from the end is the next one, and the others stay
pub popped_next : (old new : List ScriptAnswer) (r : Option ScriptAnswer) → old ≡ new ++ option_to_list r → (IsSome r ↔ (0 < length old)) → r ≡ next_of (reverse old)
popped_next old new None e h = none_left old (λ p. no_item (h.1 p))
  where
    none_left : (l : List ScriptAnswer) → (0 < length l → ⊥) → None ≡ next_of (reverse l)
    none_left [] h = refl
    none_left (x ∷ l) h = absurd (h (omega arith))
popped_next old new (Some x) e h = sym (ap (λ l. next_of (reverse l)) e ∙ ap next_of (reverse-append new (x ∷ [])))

pub popped_rest : (old new : List ScriptAnswer) (r : Option ScriptAnswer) → old ≡ new ++ option_to_list r → (IsSome r ↔ (0 < length old)) → reverse new ≡ left_by true (reverse old)
popped_rest old new None e h = none_left old new e (λ p. no_item (h.1 p))
  where
    none_left : (l m : List ScriptAnswer) → l ≡ m ++ [] → (0 < length l → ⊥) → reverse m ≡ left_by true (reverse l)
    none_left [] m e h = ap reverse (sym (append-nil m) ∙ sym e)
    none_left (x ∷ l) m e h = absurd (h (omega arith))
popped_rest old new (Some x) e h = sym (ap (λ l. left_by true (reverse l)) e ∙ ap (left_by true) (reverse-append new (x ∷ [])))

-- The order of classifiers is determined: a list has one stable order by priority.
use Rattle.std.proofs.Common.{◌≡◌, ◌∙◌, refl, sym, ap, ℕ, ℤ, zero, suc, ◌<◌, ◌≤◌, Bool, true, false, List, [], ◌∷◌, length, get_or, filter, nat_cmp, is_lt, arith, inl, inr, suc-le-suc, zero-le}
use Rattle.std.proofs.lemmas.Bool.{cond-true, cond-false, cases_Bool}
use Rattle.std.proofs.lemmas.Bool.Decides.{nat_tests}
use Rattle.std.proofs.lemmas.List.Sorted.{IsNonDecreasingBy-from_sort}
use Rattle.std.specs.List.Sorted.{ties, IsNonDecreasingBy}
use Rattle.client_builder.specs.Priority.{IsByPriority, rank}

-- two keys tie where they are the same
tied : (m n : ℕ) → ties (λ x y. is_lt (nat_cmp x y)) m n ≡ true → m ≡ n
tied m n tie = grind (arith, nat_tests)

ties_with : (m n : ℕ) → m ≡ n → ties (λ x y. is_lt (nat_cmp x y)) m n ≡ true
ties_with m n same = grind (arith, nat_tests)

module _ {X : Type 0} (key : X → ℕ) where
  abbrev beside : X → X → Bool
  beside = ties (λ x y. is_lt (nat_cmp (key x) (key y)))

  kept : (x y : X) (ys : List X) → key x ≡ key y → filter (beside x) (y ∷ ys) ≡ y ∷ filter (beside x) ys
  kept x y ys same = cond-true _ _ _ (ties_with (key x) (key y) same)

  passed : (x y : X) (ys : List X) → beside x y ≡ false → filter (beside x) (y ∷ ys) ≡ filter (beside x) ys
  passed x y ys other = cond-false _ _ _ other

  -- no key falls
  abbrev AreFrom : ℕ → List X → Type 0
  AreFrom n [] = Unit {0}
  AreFrom n (y ∷ ys) = (n ≤ key y) × AreFrom n ys

  abbrev Rises : List X → Type 0
  Rises [] = Unit {0}
  Rises (y ∷ ys) = AreFrom (key y) ys × Rises ys

  are_from : (n : ℕ) (y : X) (ys : List X) → ((j : ℕ) → j < length ys → n ≤ key (get_or ys j y)) → AreFrom n ys
  are_from n y [] at = tt
  are_from n y (z ∷ ys) at = (at zero (suc-le-suc zero-le), are_from n y ys (λ j below. at (suc j) (suc-le-suc below)))

  rises : (ys : List X) → IsNonDecreasingBy key ys → Rises ys
  rises [] up = tt
  rises (y ∷ ys) up = (
    are_from (key y) y ys (λ j below. up zero (suc j) y zero-le (suc-le-suc below)),
    rises ys (λ i j d before below. up (suc i) (suc j) d (suc-le-suc before) (suc-le-suc below)),
  )

  -- a key that occurs among them isn't below
  occurs : (n : ℕ) (x : X) (ys : List X) (first : X) (more : List X) → AreFrom n ys → filter (beside x) ys ≡ first ∷ more → n ≤ key x
  occurs n x [] first more from found = absurd (cc found)
  occurs n x (y ∷ ys) first more from found =
      elim (cases_Bool (beside x y)) [
        | inl with ↦ let low = from.0 in let same = tied (key x) (key y) with in omega (arith, low, same)
        | inr without ↦ occurs n x ys first more from.1 (sym (passed x y ys without) ∙ found)
      ]

  -- lists that rise are the same where each key's items are
  one_order : (ys zs : List X) → Rises ys → Rises zs → ((x : X) → filter (beside x) ys ≡ filter (beside x) zs) → ys ≡ zs
  one_order [] [] left right same = refl
  one_order [] (z ∷ zs) left right same = let clash = same z ∙ kept z z zs refl in absurd (cc clash)
  one_order (y ∷ ys) [] left right same = let clash = sym (same y) ∙ kept y y ys refl in absurd (cc clash)
  one_order (y ∷ ys) (z ∷ zs) left right same =
      let at_y = kept y y ys refl in
      let at_z = kept z z zs refl in
      let low = left.0 in
      let high = right.0 in
      let up = occurs (key z) y (z ∷ zs) y (filter (beside y) ys) (omega arith, right.0) (sym (same y) ∙ at_y) in
      let down = occurs (key y) z (y ∷ ys) z (filter (beside z) zs) (omega arith, left.0) (same z ∙ at_z) in
      let heads = sym at_y ∙ (same y ∙ kept y z zs (omega (arith, up, down))) in
      let head : y ≡ z = cc heads in
      ap (λ w. w ∷ ys) head ∙ ap (λ l. z ∷ l) (one_order ys zs left.1 right.1 (tails y z ys zs head same))
    where
      tails : (y z : X) (ys zs : List X) → y ≡ z → ((x : X) → filter (beside x) (y ∷ ys) ≡ filter (beside x) (z ∷ zs)) → (x : X) → filter (beside x) ys ≡ filter (beside x) zs
      tails y z ys zs head same x = elim (cases_Bool (beside x y)) [
        | inl with ↦
            let both = sym (cond-true (beside x y) (y ∷ filter (beside x) ys) (filter (beside x) ys) with) ∙ (same x ∙ cond-true (beside x z) (z ∷ filter (beside x) zs) (filter (beside x) zs) (ap (beside x) (sym head) ∙ with)) in cc both
        | inr without ↦ sym (passed x y ys without) ∙ (same x ∙ passed x z zs (ap (beside x) (sym head) ∙ without))
      ]

-- a classifier's place among all
abbrev place : {C : Type 0} → (C → ℤ) → C → ℕ
place ranked classifier = rank (ranked classifier)

pub one_priority : {C : Type 0} (ranked : C → ℤ) (registered first second : List C) → IsByPriority ranked registered first → IsByPriority ranked registered second → first ≡ second
one_priority ranked registered first second s t =
    one_order (place ranked) first second
    (rises (place ranked) first (IsNonDecreasingBy-from_sort (place ranked) first s.ordered))
    (rises (place ranked) second (IsNonDecreasingBy-from_sort (place ranked) second t.ordered))
    (λ x. s.ties x ∙ sym (t.ties x))

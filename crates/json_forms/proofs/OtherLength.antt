-- An array of another length is no tuple.
use Rattle.std.proofs.Common.{◌≡◌, List, [], ◌∷◌, length, get_or, Some, None, refl, arith}
use Rattle.json.specs.declared.value.Value.{Value}
use Rattle.json_forms.specs.View.{view, items_view}
use Rattle.json_forms.specs.Tuples.{two_of, three_of, four_of, five_of, six_of, seven_of}

pub not_two : {A : Type 0} (xs : List (Value A)) → (length xs ≡ 2 → ⊥) → two_of (items_view xs) ≡ None
unfolding items_view view
not_two {A} [] h = refl
not_two {A} (a ∷ []) h = refl
not_two {A} (a ∷ b ∷ []) h = absurd (h refl)
not_two {A} (a ∷ b ∷ c ∷ xs) h = refl

pub not_three : {A : Type 0} (xs : List (Value A)) → (length xs ≡ 3 → ⊥) → three_of (items_view xs) ≡ None
unfolding items_view view
not_three {A} [] h = refl
not_three {A} (a ∷ []) h = refl
not_three {A} (a ∷ b ∷ []) h = refl
not_three {A} (a ∷ b ∷ c ∷ []) h = absurd (h refl)
not_three {A} (a ∷ b ∷ c ∷ d ∷ xs) h = refl

pub not_four : {A : Type 0} (xs : List (Value A)) → (length xs ≡ 4 → ⊥) → four_of (items_view xs) ≡ None
unfolding items_view view
not_four {A} [] h = refl
not_four {A} (a ∷ []) h = refl
not_four {A} (a ∷ b ∷ []) h = refl
not_four {A} (a ∷ b ∷ c ∷ []) h = refl
not_four {A} (a ∷ b ∷ c ∷ d ∷ []) h = absurd (h refl)
not_four {A} (a ∷ b ∷ c ∷ d ∷ e ∷ xs) h = refl

pub not_five : {A : Type 0} (xs : List (Value A)) → (length xs ≡ 5 → ⊥) → five_of (items_view xs) ≡ None
unfolding items_view view
not_five {A} [] h = refl
not_five {A} (a ∷ []) h = refl
not_five {A} (a ∷ b ∷ []) h = refl
not_five {A} (a ∷ b ∷ c ∷ []) h = refl
not_five {A} (a ∷ b ∷ c ∷ d ∷ []) h = refl
not_five {A} (a ∷ b ∷ c ∷ d ∷ e ∷ []) h = absurd (h refl)
not_five {A} (a ∷ b ∷ c ∷ d ∷ e ∷ f ∷ xs) h = refl

pub not_six : {A : Type 0} (xs : List (Value A)) → (length xs ≡ 6 → ⊥) → six_of (items_view xs) ≡ None
unfolding items_view view
not_six {A} [] h = refl
not_six {A} (a ∷ []) h = refl
not_six {A} (a ∷ b ∷ []) h = refl
not_six {A} (a ∷ b ∷ c ∷ []) h = refl
not_six {A} (a ∷ b ∷ c ∷ d ∷ []) h = refl
not_six {A} (a ∷ b ∷ c ∷ d ∷ e ∷ []) h = refl
not_six {A} (a ∷ b ∷ c ∷ d ∷ e ∷ f ∷ []) h = absurd (h refl)
not_six {A} (a ∷ b ∷ c ∷ d ∷ e ∷ f ∷ g ∷ xs) h = refl

pub not_seven : {A : Type 0} (xs : List (Value A)) → (length xs ≡ 7 → ⊥) → seven_of (items_view xs) ≡ None
unfolding items_view view
not_seven {A} [] h = refl
not_seven {A} (a ∷ []) h = refl
not_seven {A} (a ∷ b ∷ []) h = refl
not_seven {A} (a ∷ b ∷ c ∷ []) h = refl
not_seven {A} (a ∷ b ∷ c ∷ d ∷ []) h = refl
not_seven {A} (a ∷ b ∷ c ∷ d ∷ e ∷ []) h = refl
not_seven {A} (a ∷ b ∷ c ∷ d ∷ e ∷ f ∷ []) h = refl
not_seven {A} (a ∷ b ∷ c ∷ d ∷ e ∷ f ∷ g ∷ []) h = absurd (h refl)
not_seven {A} (a ∷ b ∷ c ∷ d ∷ e ∷ f ∷ g ∷ i ∷ xs) h = refl

-- the items of an array of seven
pub seven_items : {A : Type 0} (xs : List (Value A)) (a b c d e f g : Value A) → length xs ≡ 7 → a ≡ get_or xs 0 a → b ≡ get_or xs 1 b → c ≡ get_or xs 2 c → d ≡ get_or xs 3 d → e ≡ get_or xs 4 e → f ≡ get_or xs 5 f → g ≡ get_or xs 6 g →
    seven_of (items_view xs) ≡ Some (view a, view b, view c, view d, view e, view f, view g)
unfolding items_view view
seven_items {A} (s ∷ t ∷ u ∷ v ∷ w ∷ x ∷ y ∷ []) a b c d e f g h p q r i j k l = rw (p, q, r, i, j, k, l) refl
seven_items {A} [] a b c d e f g h p q r i j k l = absurd (omega (arith, h))
seven_items {A} (s ∷ []) a b c d e f g h p q r i j k l = absurd (omega (arith, h))
seven_items {A} (s ∷ t ∷ []) a b c d e f g h p q r i j k l = absurd (omega (arith, h))
seven_items {A} (s ∷ t ∷ u ∷ []) a b c d e f g h p q r i j k l = absurd (omega (arith, h))
seven_items {A} (s ∷ t ∷ u ∷ v ∷ []) a b c d e f g h p q r i j k l = absurd (omega (arith, h))
seven_items {A} (s ∷ t ∷ u ∷ v ∷ w ∷ []) a b c d e f g h p q r i j k l = absurd (omega (arith, h))
seven_items {A} (s ∷ t ∷ u ∷ v ∷ w ∷ x ∷ []) a b c d e f g h p q r i j k l = absurd (omega (arith, h))
seven_items {A} (s ∷ t ∷ u ∷ v ∷ w ∷ x ∷ y ∷ z ∷ xs) a b c d e f g h p q r i j k l = absurd (omega (arith, h))

-- Arrays that aren't one word alone.
use Rattle.std.proofs.Common.{◌≡◌, ℕ, List, [], ◌∷◌, length, false, refl}
use Rattle.json_forms.specs.View.{view, items_view}
use Rattle.json.specs.declared.value.Value.{Value}
use Rattle.json_scripts.specs.Client.Schemes.{only_says}

pub not_alone : {A : Type 0} (word : List ℕ) (xs : List (Value A)) → (length xs ≡ 1 → ⊥) → only_says word (items_view xs) ≡ false
unfolding only_says items_view view
not_alone {A} word [] h = refl
not_alone {A} word (a ∷ []) h = absurd (h refl)
not_alone {A} word (a ∷ b ∷ xs) h = refl

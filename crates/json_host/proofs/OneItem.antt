-- An array of one item.
use Rattle.std.proofs.Common.{◌≡◌, List, [], ◌∷◌, length, Some, None, refl, arith}
use Rattle.json.specs.declared.value.Value.{Value}
use Rattle.json_forms.specs.View.{view, items_view}
use Rattle.json_host.specs.Messages.{only_item}

pub one_item : {A : Type 0} (xs : List (Value A)) → length xs ≡ 1 → only_item (items_view xs) ≡ Some tt
unfolding items_view view only_item
one_item {A} [] h = absurd (omega arith)
one_item {A} (a ∷ []) h = refl
one_item {A} (a ∷ b ∷ xs) h = absurd (omega arith)

pub not_one : {A : Type 0} (xs : List (Value A)) → (length xs ≡ 1 → ⊥) → only_item (items_view xs) ≡ None
unfolding items_view view only_item
not_one {A} [] h = refl
not_one {A} (a ∷ []) h = absurd (h refl)
not_one {A} (a ∷ b ∷ xs) h = refl

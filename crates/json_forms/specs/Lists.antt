-- Arrays of like items.
use Rattle.std.specs.Prelude.{ℕ, List, [], ◌∷◌, ◌++◌, Bool, true, ◌&&◌, not, Option, Some, None, nat_eq, if◌then◌else◌}
use Rattle.std.specs.Cmp.Lexicographic.{pointwise}
use Rattle.std.specs.List.{list_any}
use Rattle.serde_json.specs.Data.{Data, Items, no_items, item}
use Rattle.serde_json.specs.Find.{as_str}
use Rattle.json_forms.specs.Plain.{pair_at}
use Rattle.json_forms.specs.Reading.{◌>>=◌}

-- each item as f reads it, where f reads them all
unfoldable pub list_of : {X : Type 0} → (Data → Option X) → Items → Option (List X)
list_of f no_items = Some []
list_of f (item d ds) = f d >>= λ x. list_of f ds >>= λ xs. Some (x ∷ xs)

-- none of the names stands among those before it
abbrev pub fresh : List (List ℕ) → List (List ℕ) → Bool
fresh before [] = true
fresh before (n ∷ ns) = not (list_any (pointwise nat_eq n) before) && fresh (before ++ n ∷ []) ns

-- the name that a pair begins with
unfoldable pub name_at : Data → Option (List ℕ)
name_at d = pair_at d >>= λ p. as_str p.0

-- none of the names stands twice
abbrev pub once : List (List ℕ) → Option (Unit {0})
once ns = if fresh [] ns then Some tt else None

-- pairs with names, none of which stands twice
unfoldable pub named_once : Items → Option (Unit {0})
named_once ds = list_of name_at ds >>= once

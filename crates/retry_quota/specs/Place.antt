-- A change at one place of a list.
use Rattle.std.specs.Prelude.{ℕ, zero, suc, List, [], ◌∷◌}

-- the item at the place is changed; a place past the end changes nothing
abbrev pub change_at : {X : Type 0} → ℕ → (X → X) → List X → List X
change_at i f [] = []
change_at zero f (x ∷ xs) = f x ∷ xs
change_at (suc i) f (x ∷ xs) = x ∷ change_at i f xs

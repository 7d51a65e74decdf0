-- A word among names that are seen through a function.
use Rattle.std.proofs.Common.{◌≡◌, ℕ, List, [], ◌∷◌, ◌||◌, refl, ap, map}
use Rattle.std.specs.List.{list_any}
use Rattle.json_scripts.specs.Members.{is_among, is_name}

pub among_named : {X : Type 0} (f : X → List ℕ) (word : List ℕ) (xs : List X) → list_any (λ x. is_name (f x) word) xs ≡ is_among (map f xs) word
among_named f word [] = refl
among_named f word (x ∷ xs) = ap (λ b. is_name (f x) word || b) (among_named f word xs)

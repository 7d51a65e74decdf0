-- Names, one after another.
use Rattle.std.specs.Prelude.{ℕ, List, [], ◌∷◌}

-- the first name, or the empty one
abbrev pub first_of : List (List ℕ) → List ℕ
first_of [] = []
first_of (n ∷ ns) = n

-- the names behind the first
abbrev pub rest_of : List (List ℕ) → List (List ℕ)
rest_of [] = []
rest_of (n ∷ ns) = ns

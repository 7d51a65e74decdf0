-- The sleeps that are open, by their numbers.
use Rattle.std.specs.Prelude.{ℕ, ◌==◌, List, Option, None, Some, position, remove}

-- the list without the item at this place, if there is one
abbrev pub without_place : List ℕ → Option ℕ → List ℕ
without_place sleeps None = sleeps
without_place sleeps (Some place) = remove sleeps place

-- the sleeps without the first one of this number
abbrev pub without : ℕ → List ℕ → List ℕ
without sleep sleeps = without_place sleeps (position (λ s. s == sleep) sleeps)

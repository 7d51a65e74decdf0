-- Which members the objects of a script may have.
use Rattle.std.specs.Prelude.{ℕ, List, [], ◌∷◌, codes}

-- the members that a script may have
unfoldable pub script_members : List (List ℕ)
script_members = codes "bucket" ∷ codes "start" ∷ codes "words" ∷ codes "fuel" ∷ codes "waiters" ∷ []

-- the members that a waiter may have
unfoldable pub waiter_members : List (List ℕ)
waiter_members = codes "min" ∷ codes "max" ∷ codes "max_wait" ∷ codes "polls" ∷ []

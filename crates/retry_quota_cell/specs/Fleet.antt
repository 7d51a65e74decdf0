-- What any number of callers make together.
use Rattle.std.specs.Prelude.{◌≡◌, ℕ, List, [], ◌∷◌, ◌++◌}
use Rattle.retry_quota_cell.specs.View.{Opening}
use Rattle.retry_quota.specs.History.{Entry, IsLegal}
use Rattle.retry_quota_cell.specs.Rule.{AreAll}
use Rattle.retry_quota_cell.specs.Callers.{calls_at, RisesFrom}

-- the lists are as long as each other, and the relation holds at each place
abbrev pub Each : {A B : Type 0} → (A → B → Type 0) → List A → List B → Type 0
Each R [] [] = Unit {0}
Each R [] (y ∷ ys) = ⊥
Each R (x ∷ xs) [] = ⊥
Each R (x ∷ xs) (y ∷ ys) = R x y × Each R xs ys

-- the numbers of all lists, one list after the other
abbrev pub all_of : List (List ℕ) → List ℕ
all_of [] = []
all_of (ps ∷ more) = ps ++ all_of more

-- these steps stand in the history at these places, in order
pub record StandsAt (log : List Entry) (steps : List Entry) (places : List ℕ) : Type 0 where
  pub rising : RisesFrom 0 places
  pub steps_are : calls_at places log ≡ steps

-- one legal history, whose entries are these steps of these callers, each once, each caller's in its order: each number
-- below its length is the place of one step of one caller, and no other is
pub record AreTheirs (o : Opening) (all : List (List Entry)) (log : List Entry) : Type 0 where
  pub legal : IsLegal o.book log
  pub places : List (List ℕ)
  pub steps : Each (StandsAt log) all places
  pub once : AreAll (all_of places) log

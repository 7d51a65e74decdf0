-- A pass's own steps, and that it made just these.
use Rattle.std.specs.Prelude.{◌≡◌, ℕ, zero, suc, ◌≤◌, List, [], ◌∷◌, ◌++◌, length}
use Rattle.retry_quota.specs.History.{Entry}
use Rattle.retry_quota_cell.specs.View.{View}
use Rattle.retry_quota_cell.specs.Known.{AreBelow}

-- the entry at a place, where there is one
abbrev pub at_place : ℕ → List Entry → List Entry
at_place n [] = []
at_place zero (e ∷ es) = e ∷ []
at_place (suc n) (e ∷ es) = at_place n es

-- the entries at these places
abbrev pub calls_at : List ℕ → List Entry → List Entry
calls_at [] log = []
calls_at (p ∷ ps) log = at_place p log ++ calls_at ps log

-- a pass's own steps, with their replies
abbrev pub own : View → List Entry
own v = calls_at v.places v.seen

-- each number is greater than the one before
abbrev pub RisesFrom : ℕ → List ℕ → Type 0
RisesFrom n [] = Unit {0}
RisesFrom n (p ∷ ps) = (n ≤ p) × RisesFrom (suc p) ps

-- the places of a pass's steps come in order, in what it has seen
abbrev pub IsOrdered : View → Type 0
IsOrdered v = RisesFrom 0 v.places × AreBelow (length v.seen) v.places

-- a pass for one caller, which has made no step
pub record IsUnused (v : View) : Type 0 where
  pub one : v.parts ≡ 1
  pub unused : v.places ≡ []

-- a pass of one caller, which made these steps with these replies, in this order, and no others
pub record HasMade (steps : List Entry) (v : View) : Type 0 where
  pub one : v.parts ≡ 1
  pub ordered : IsOrdered v
  pub own_steps : own v ≡ steps

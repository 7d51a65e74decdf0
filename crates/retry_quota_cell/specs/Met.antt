-- What is known of callers that have ended, before anyone looks at the history.
use Rattle.std.specs.Prelude.{◌≡◌, ℕ, ◌⊎◌, List, [], ◌∷◌, length}
use Rattle.retry_quota.specs.History.{Entry}
use Rattle.retry_quota_cell.specs.View.{View}
use Rattle.retry_quota_cell.specs.Known.{AreBelow}
use Rattle.retry_quota_cell.specs.Callers.{calls_at, RisesFrom}
use Rattle.retry_quota_cell.specs.Fleet.{Each, all_of}

-- the history is one of these
abbrev pub IsAmong : List Entry → List (List Entry) → Type 0
IsAmong seen [] = ⊥
IsAmong seen (x ∷ xs) = (seen ≡ x) ⊎ IsAmong seen xs

-- one caller's steps, as they stood in what it had seen when it ended
pub record StoodAt (known : List (List Entry)) (steps : List Entry) (places : List ℕ) : Type 0 where
  pub seen : List Entry
  pub among : IsAmong seen known
  pub rising : RisesFrom 0 places
  pub below : AreBelow (length seen) places
  pub own_steps : calls_at places seen ≡ steps

-- callers that began with the parts of one pass, and made these steps, have all joined
pub record Met (all : List (List Entry)) (v w : View) : Type 0 where
  pub opening : w.opening ≡ v.opening
  pub parts : w.parts ≡ v.parts
  pub places : List (List ℕ)
  pub places_are : w.places ≡ all_of places
  pub team : Each (StoodAt (w.seen ∷ w.olds)) all places

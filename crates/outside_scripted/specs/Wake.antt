-- Where a park leads.
use Rattle.std.specs.Prelude.{◌≡◌, ℕ, ◌<◌, ◌≤◌, ◌⊎◌, List, Option, MatchOption}
use Rattle.std.specs.List.{Contains}
use Rattle.outside_scripted.specs.Time.{later}

-- nothing is due above this moment
abbrev pub NothingAbove : ℕ → List ℕ → Type 0
NothingAbove moment dues = (due : ℕ) → Contains dues due → due ≤ moment

-- the least moment above this one at which something is due
pub record IsLeastAbove (moment : ℕ) (dues : List ℕ) (next : ℕ) : Type 0 where
  pub is_due : Contains dues next
  pub above : moment < next
  pub least : (due : ℕ) → Contains dues due → moment < due → next ≤ due

-- that least moment, or none where nothing is due above
abbrev pub IsNext : ℕ → List ℕ → Option ℕ → Type 0
IsNext moment dues next = MatchOption next (NothingAbove moment dues) (IsLeastAbove moment dues)

-- a park leads to that least moment, and a second on where there is none
abbrev pub Wakes : ℕ → List ℕ → ℕ → Type 0
Wakes moment dues woken =
    IsLeastAbove moment dues woken ⊎ (NothingAbove moment dues × (woken ≡ later moment 1000000000))

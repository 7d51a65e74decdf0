-- Steps, one after another. A step is a call with its answer, or an entry of a log.
use Rattle.std.specs.Prelude.{◌≡◌, List, [], ◌∷◌}

-- these steps may take a state from old to new; which states lie between isn't said
abbrev pub Chained : {T C : Type 0} → (T → C → T → Type 0) → T → List C → T → Type 0
Chained makes old [] new = new ≡ old
Chained {T} makes old (call ∷ calls) new = (mid : T) × makes old call mid × Chained makes mid calls new

-- some calls of this form were made, and no others
pub record ByCalls {T C : Type 0} (makes : T → C → T → Type 0) (old : T) (are : List C → Type 0)
    (new : T) : Type 0 where
  pub calls : List C
  pub these : are calls
  pub made : Chained makes old calls new

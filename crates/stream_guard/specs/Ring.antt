-- Ten bins in a ring.
use Rattle.std.specs.Prelude.{◌≡◌, ℕ, ◌≤◌, ◌++◌, List, length, take, drop, All}
use Rattle.stream_guard.specs.Bin.{most_bytes}
use Rattle.stream_guard.specs.Totals.{totals_of}
use Rattle.stream_guard.specs.declared.bin.Bin.{Bin}
use Rattle.stream_guard.specs.declared.totals.Totals.{Totals}

-- the bins in their order, where the earliest stands at this place
abbrev pub in_order : ℕ → List Bin → List Bin
in_order head slots = drop head slots ++ take head slots

-- ten slots, and their totals
pub record IsRing (slots : List Bin) (totals : Totals) : Type 0 where
  pub ten : length slots ≡ 10
  pub totals_are : totals ≡ totals_of slots
  pub fit : All (λ b. b.bytes ≤ most_bytes) slots

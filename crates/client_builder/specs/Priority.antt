-- The order in which classifiers are asked.
use Rattle.std.specs.Prelude.{ℕ, ℤ, pos, ◌+◌, ◌-◌, if◌then◌else◌, int_lt, nat_abs, List, IsPermutation, IsSortedByKey}
use Rattle.std.specs.List.Sorted.{IsStableByKey}
use Rattle.std.specs.Ordering.{nat_cmp}

-- a priority's place among all: 0 for -128, which is the lowest, and 255 for 127
abbrev pub rank : ℤ → ℕ
rank priority = if int_lt priority (pos 0) then 128 - nat_abs priority else 128 + nat_abs priority

-- the same items by their priorities, the lowest first, and those of one priority in their order
pub record IsByPriority {C : Type 0} (ranked : C → ℤ) (registered sorted : List C) : Type 0 where
  pub same : IsPermutation registered sorted
  pub ordered : IsSortedByKey (λ c. rank (ranked c)) nat_cmp sorted
  pub ties : IsStableByKey (λ c. rank (ranked c)) nat_cmp registered sorted

-- The cube root of a whole number, rounded down.
use Rattle.std.specs.Prelude.{◌≤◌, ℕ, zero, suc, ◌*◌, Bool, nat_le, if◌then◌else◌}

-- the third power
abbrev pub cube : ℕ → ℕ
cube n = n * n * n

-- the greatest number up to this one that meets the test, or 0
abbrev pub greatest_up_to : ℕ → (ℕ → Bool) → ℕ
greatest_up_to zero test = 0
greatest_up_to (suc n) test = if test (suc n) then suc n else greatest_up_to n test

-- the greatest number whose cube is at most n; it is at most n itself
unfoldable pub cube_root : ℕ → ℕ
cube_root n = greatest_up_to n (λ root. nat_le (cube root) n)

-- what a cube root is
pub record IsCubeRoot (n root : ℕ) : Type 0 where
  pub below : cube root ≤ n
  pub greatest : (other : ℕ) → cube other ≤ n → other ≤ root

-- Which plans a waiter can follow. Times are in nanoseconds.
use Rattle.std.specs.Prelude.{◌≡◌, ◌&&◌, ℕ, ◌<◌, Bool, true, false, List, Some, nat_le, slice_get}
use Rattle.waiter_fleet.specs.declared.plan.Plan.{Plan}
use Rattle.waiters.specs.Delay.{second}

-- the least delay is at least a second, and the greatest at least the least
abbrev pub is_good : Plan → Bool
is_good plan = nat_le second plan.min_delay && nat_le plan.min_delay plan.max_delay

-- a waiter can follow each
abbrev pub AllGood : List Plan → Type 0
AllGood plans = (k : ℕ) (plan : Plan) → slice_get plans k ≡ Some plan → is_good plan ≡ true

-- the plan of this number is bad, and no earlier one is
pub record IsFirstBad (plans : List Plan) (waiter : ℕ) : Type 0 where
  pub plan : Plan
  pub there : slice_get plans waiter ≡ Some plan
  pub bad : is_good plan ≡ false
  pub earlier : (k : ℕ) (one : Plan) → k < waiter → slice_get plans k ≡ Some one → is_good one ≡ true

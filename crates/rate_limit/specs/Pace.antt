-- What a limiter keeps.
use Rattle.std.specs.Prelude.{◌≡◌, ℕ, ◌*◌, ◌/◌, ◌≤◌, Bool, true, false, Option, None}
use Rattle.retry_quota.specs.declared.limiter.RequestReason.{RequestReason}
use Rattle.retry_quota.specs.declared.limiter.RequestReason.TheVariants.{Retry, RetryTimeout, InitialRequest}
use Rattle.rate_limit.specs.Curve.{most}

-- amounts are in millionths of a token, rates in millionths of a token per second, moments in nanoseconds
pub record Pace : Type 0 where
  -- what a second adds to the capacity
  pub fill : ℕ
  -- what requests may take
  pub capacity : ℕ
  -- the most that the capacity may be
  pub limit : ℕ
  -- the moment up to which the capacity was refilled
  pub refilled_at : Option ℕ
  -- whether requests are limited; they are from the first throttle on
  pub enabled : Bool
  -- the smoothed rate of requests
  pub measured : ℕ
  -- the last half second for which the rate was measured, counted from the epoch
  pub half_second : ℕ
  -- the requests that came since then
  pub count : ℕ
  -- the rate at the last throttle, and its moment
  pub last_max : ℕ
  pub throttled_at : ℕ

-- all numbers are zero, and the capacity is unbounded
abbrev pub zero_pace : Pace
zero_pace = record {
  fill = 0;
  capacity = 0;
  limit = most;
  refilled_at = None;
  enabled = false;
  measured = 0;
  half_second = 0;
  count = 0;
  last_max = 0;
  throttled_at = 0;
}

-- half a token per second was measured up to the second of this moment
abbrev pub pace_from : ℕ → Pace
pace_from now = record zero_pace { measured = 500000; throttled_at = now; half_second = 2 * (now / 1000000000) }

-- what every limiter keeps
pub record IsSound (p : Pace) : Type 0 where
  pub within : p.capacity ≤ p.limit
  pub fills : p.enabled ≡ true → 500000 ≤ p.fill

-- what a request takes
abbrev pub amount_of : RequestReason → ℕ
amount_of Retry = 5000000
amount_of RetryTimeout = 10000000
amount_of InitialRequest = 1000000

-- How long a waiter pauses before it polls again. Times are in nanoseconds.
use Rattle.std.specs.Prelude.{◌≡◌, ℕ, ◌+◌, ◌-◌, ◌*◌, ◌/◌, ◌^◌, ◌≤◌, nat_le, nat_lt, if◌then◌else◌}

-- the nanoseconds of a second
abbrev pub second : ℕ
second = 1000000000

-- The last attempt before which the least delay, doubled for each attempt after the first, is
-- within the greatest delay: c is the greatest number with min × 2^(c - 1) ≤ max.
pub record IsCeiling (min max c : ℕ) : Type 0 where
  pub within : min * 2 ^ (c - 1) ≤ max
  pub greatest : (k : ℕ) → min * 2 ^ (k - 1) ≤ max → k ≤ c

-- the most whole seconds that may be drawn at this attempt
abbrev pub most_seconds : (min max ceiling attempt : ℕ) → ℕ
most_seconds min max ceiling attempt =
    if nat_lt ceiling attempt then max / second else min / second * 2 ^ (attempt - 1)

-- the delay that a word of 64 random bits draws, from the least whole seconds to the most
abbrev pub drawn_delay : (min most word : ℕ) → ℕ
drawn_delay min most word = (min / second + word * (most - min / second + 1) / 2 ^ 64) * second

-- A delay that would leave at most the least delay before the end takes all the time left.
abbrev pub cut_delay : (min left drawn : ℕ) → ℕ
cut_delay min left drawn = if nat_le (left - drawn) min then left else drawn

-- the delay before the poll that follows this attempt
pub record IsDelay (min max max_wait attempt elapsed word delay : ℕ) : Type 0 where
  pub ceiling : ℕ
  pub is_ceiling : IsCeiling min max ceiling
  pub value : delay ≡ cut_delay min (max_wait - elapsed) (drawn_delay min (most_seconds min max ceiling attempt) word)

-- The curve by which a rate grows after a throttle.
use Rattle.std.specs.Prelude.{ℕ, ◌+◌, ◌-◌, ◌*◌, ◌/◌, ◌^◌, min, ℤ, pos, negsuc, ◌+ℤ◌, ◌-ℤ◌, ◌*ℤ◌, neg_ℤ}
use Rattle.std.specs.Int.{int_div_euclid, int_max, int_min}
use Rattle.rate_limit.specs.CubeRoot.{cube_root}

-- the most that a number may be
abbrev pub most : ℕ
most = 2 ^ 64 - 1

-- a number, or the most where it is larger
abbrev pub capped : ℕ → ℕ
capped n = min n most

-- a whole number, or 0 where it is negative
abbrev pub at_least_zero : ℤ → ℕ
at_least_zero (pos n) = n
at_least_zero (negsuc n) = 0

-- within 10^12 of 0
abbrev pub clamped : ℤ → ℤ
clamped z = int_max (neg_ℤ (pos 1000000000000)) (int_min (pos 1000000000000) z)

-- how many microseconds after a throttle its rate is reached again
abbrev pub window_of : ℕ → ℕ
window_of last_max = cube_root (last_max * 750000000000)

-- how many microseconds `now` is behind the moment at which the rate of the throttle is reached again;
-- both moments are in nanoseconds
abbrev pub lateness : ℕ → ℕ → ℕ → ℤ
lateness last_max throttled_at now = clamped (pos (now / 1000) -ℤ pos (throttled_at / 1000 + window_of last_max))

-- the rate at so many microseconds behind that moment: it grows with their cube,
-- by 0.4 tokens a second for a cube of one second; the quotient is rounded towards minus infinity
abbrev pub rate_at : ℕ → ℤ → ℕ
rate_at last_max late =
    capped (at_least_zero (int_div_euclid (late *ℤ late *ℤ late *ℤ pos 4) (pos 10000000000000) +ℤ pos last_max))

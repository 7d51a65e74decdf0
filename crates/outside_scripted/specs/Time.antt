-- Moments and durations, in nanoseconds.
use Rattle.std.specs.Prelude.{ℕ, ◌+◌, ◌-◌, ◌^◌, min}

-- so many nanoseconds later, as far as a moment can be told
abbrev pub later : ℕ → ℕ → ℕ
later moment nanos = min (moment + nanos) (2 ^ 64 - 1)

-- When a loaded identity expires.
use Rattle.std.specs.Prelude.{ℕ, ◌+◌, ◌*◌, ◌/◌, ◌^◌, min, Option}
use Rattle.std.specs.Option.{unwrap_or}

-- its own expiration, or the default after it was first asked for, put off by a random part of half the buffer
abbrev pub stored_expiry : Option ℕ → ℕ → ℕ → ℕ → ℕ → ℕ
stored_expiry expiration asked_at default_expiration buffer word =
    min (unwrap_or expiration (asked_at + default_expiration) + buffer * word / 2 ^ 65) 18446744073709551615

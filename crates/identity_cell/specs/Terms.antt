-- The numbers that a lazy cache goes by, in nanoseconds.
use Rattle.std.specs.Prelude.{ℕ, ◌<◌, ◌≤◌, Option}

-- what a lazy cache goes by
pub record Terms : Type 0 where
  -- how long a load may take; where it is absent, the settings say it
  pub load_timeout : Option ℕ
  -- how long before its expiry an identity counts as expired
  pub buffer : ℕ
  -- how long an identity without an expiration is kept
  pub default_expiration : ℕ
  -- how many schemes' identities are kept at most
  pub max_partitions : ℕ

-- identities are kept for at least 15 minutes, and that of one scheme at least
pub record AreTerms (expiration partitions : ℕ) : Type 0 where
  pub kept : 900000000000 ≤ expiration
  pub some : 0 < partitions

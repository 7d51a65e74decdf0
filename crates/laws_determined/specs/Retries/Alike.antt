-- When two states of a client's retries are alike: nothing that is answered tells one from the other.
use Rattle.std.specs.Prelude.{◌≡◌, ℕ, List}
use Rattle.std.specs.Map.{lookup}
use Rattle.client_retries.specs.Meanings.{QuotaMeans}
use Rattle.client_retries.specs.declared.strategy.RetryStrategy.{RetryStrategy}
use Rattle.client_retries.specs.declared.strategy.RetryStrategy.TheVariants.{Never, Standard}
use Rattle.retry_policy.specs.Decision.{permit_of}
use Rattle.retry_quota.specs.Calls.{Limiters}
use Rattle.retry_quota.specs.Registers.{Registers, meaning_of}
use Rattle.smithy_types.specs.Partition.{same_partition}
use Rattle.smithy_types.specs.declared.partition.RetryPartition.{RetryPartition}

-- the same buckets and limiters, and each default partition has the same numbers
pub record AreAlike {L : Type 0} (q r : Registers L) : Type 0 where
  pub books : q.books ≡ r.books
  pub limiters : q.limiters ≡ r.limiters
  pub bucket_of : (partition : RetryPartition)
      → lookup (same_partition partition) q.bucket_names ≡ lookup (same_partition partition) r.bucket_names
  pub limiter_of : (partition : RetryPartition)
      → lookup (same_partition partition) q.limiter_names ≡ lookup (same_partition partition) r.limiter_names

module _ {P : Type 0} (bucket amount : P → ℕ) where
  -- what registers mean, whose permits are of this bucket and this amount
  abbrev pub registers_mean : {L : Type 0} → Limiters L → QuotaMeans (Registers L) P L
  registers_mean limiters = record {
    meaning = meaning_of;
    permit_bucket = bucket;
    permit_amount = amount;
    limiters = limiters;
  }

  -- both never retry, or hold permits of the same bucket and amount
  abbrev pub HoldAlike : RetryStrategy P → RetryStrategy P → Type 0
  HoldAlike (Never one) (Never two) = Unit {0}
  HoldAlike (Never one) (Standard two) = ⊥
  HoldAlike (Standard one) (Never two) = ⊥
  HoldAlike (Standard one) (Standard two) = permit_of bucket amount one.held ≡ permit_of bucket amount two.held

-- a strategy and its quota over an outside
pub record Retries (X P L : Type 0) : Type 0 where
  pub outside : X
  pub strategy : RetryStrategy P
  pub quota : Registers L

-- interceptors and their quota over an outside
pub record Chains (X I L : Type 0) : Type 0 where
  pub outside : X
  pub chain : List I
  pub quota : Registers L

-- one outside, strategies that hold alike, and quotas that are alike
pub record RetriesAlike {X P L : Type 0} (bucket amount : P → ℕ) (one two : Retries X P L) : Type 0 where
  pub outside : one.outside ≡ two.outside
  pub strategy : HoldAlike bucket amount one.strategy two.strategy
  pub quota : AreAlike one.quota two.quota

-- one outside, the same interceptors, and quotas that are alike
pub record ChainsAlike {X I L : Type 0} (one two : Chains X I L) : Type 0 where
  pub outside : one.outside ≡ two.outside
  pub chain : one.chain ≡ two.chain
  pub quota : AreAlike one.quota two.quota

-- What a client's strategy holds.
use Rattle.std.specs.Prelude.{◌≡◌, Option, None}
use Rattle.retry_policy.specs.Decision.{permit_of, releasing}
use Rattle.retry_policy.specs.declared.standard.StandardRetryStrategy.{StandardRetryStrategy}
use Rattle.retry_quota.specs.Calls.{Calls}
use Rattle.retry_quota.specs.declared.permit.Permit.{Permit}
use Rattle.smithy_types.specs.Chain.{Chained}
use Rattle.client_retries.specs.Meanings.{QuotaMeans}
use Rattle.client_retries.specs.declared.strategy.RetryStrategy.{RetryStrategy}
use Rattle.client_retries.specs.declared.strategy.RetryStrategy.TheVariants.{Never, Standard}

module _ {Q P L : Type 0} (means : QuotaMeans Q P L) where
  -- what the held permit stands for
  abbrev pub held_by : StandardRetryStrategy P → Option Permit
  held_by strategy = permit_of means.permit_bucket means.permit_amount strategy.held

  -- a held permit goes back to its bucket
  abbrev pub Closes : RetryStrategy P → Q → RetryStrategy P → Q → Type 0
  Closes (Never never) q new after = (new ≡ Never never) × (after ≡ q)
  Closes (Standard standard) q new after =
      (emptied : StandardRetryStrategy P) × (new ≡ Standard emptied) × (held_by emptied ≡ None)
      × Chained (Calls means.limiters) (means.meaning q) (releasing (held_by standard)) (means.meaning after)

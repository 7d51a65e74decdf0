-- What the interceptors are offered before their chain runs.
use Rattle.std.specs.Prelude.{ℕ, if◌then◌else◌, List, [], ◌∷◌, map, Option, None, Some}
use Rattle.retry_policy.specs.Interceptors.{is_before_retry_loop, is_after_deserialization}
use Rattle.retry_policy.specs.Standing.{standing_partition, standing_retry}
use Rattle.retry_quota.specs.Calls.{QuotaCall, FoundBucket}
use Rattle.smithy_context.specs.StandingLayers.{StandingLayers}
use Rattle.smithy_types.specs.declared.config.RetryConfig.{RetryConfig}
use Rattle.smithy_types.specs.declared.config.RetrySpec.{RetrySpec}
use Rattle.smithy_types.specs.declared.hook.Hook.{Hook}
use Rattle.smithy_types.specs.declared.notes.RetryAction.{RetryAction}
use Rattle.smithy_types.specs.declared.partition.RetryPartition.{RetryPartition}
use Rattle.client_retries.specs.Meanings.{InterceptorMeans}

-- the specification of retries that stands
abbrev pub spec_of : Option RetryConfig → Option RetrySpec
spec_of None = None
spec_of (Some retry) = retry.spec

-- the specification in the retry configuration that stands
abbrev pub standing_spec : StandingLayers → Option RetrySpec
standing_spec settings = spec_of (standing_retry settings)

-- the number of a partition's bucket is asked for; without a partition nothing is
abbrev pub finding_bucket : Option RetryPartition → Option RetrySpec → ℕ → List QuotaCall
finding_bucket None spec number = []
finding_bucket (Some partition) spec number = FoundBucket partition spec number ∷ []

-- before the retry loop the bucket of the standing partition is found
abbrev pub finding : Hook → StandingLayers → ℕ → List QuotaCall
finding hook settings number =
    if is_before_retry_loop hook then finding_bucket (standing_partition settings) (standing_spec settings) number
    else []

module _ {I : Type 0} (means : InterceptorMeans I) where
  -- the bucket is offered where a partition stands; else the last offer stays
  abbrev pub offered_bucket : Option RetryPartition → ℕ → List I → List I
  offered_bucket None number chain = chain
  offered_bucket (Some partition) number chain = map (λ i. means.with_bucket i number) chain

  -- before the retry loop the bucket, once a response is read the verdict
  abbrev pub offered : Hook → StandingLayers → ℕ → RetryAction → List I → List I
  offered hook settings number verdict chain =
      if is_before_retry_loop hook then offered_bucket (standing_partition settings) number chain
      else if is_after_deserialization hook then map (λ i. means.with_verdict i verdict) chain
      else chain

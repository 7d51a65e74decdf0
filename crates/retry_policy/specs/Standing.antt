-- What a strategy reads of the settings that stand.
use Rattle.std.specs.Prelude.{ℕ, Bool, true, false, not, ◌&&◌, ◌||◌, Option, None, Some, is_none, is_some}
use Rattle.smithy_context.specs.Settings.{loaded}
use Rattle.smithy_context.specs.StandingLayers.{StandingLayers}
use Rattle.smithy_context.specs.declared.setting.Setting.{Setting}
use Rattle.smithy_context.specs.declared.setting.Setting.TheVariants as set
use Rattle.smithy_context.specs.declared.setting.SettingKey.TheVariants as keys
use Rattle.smithy_types.specs.declared.config.RetryConfig.{RetryConfig}
use Rattle.smithy_types.specs.declared.config.RetryMode.{RetryMode}
use Rattle.smithy_types.specs.declared.config.RetryMode.TheVariants.{Standard, Adaptive}
use Rattle.smithy_types.specs.declared.partition.RetryPartition.{RetryPartition}

-- the retry configuration in a setting
abbrev pub retry_of : Option Setting → Option RetryConfig
retry_of (Some (set.Retry retry)) = Some retry
retry_of _ = None

-- the bucket's number in a setting
abbrev pub bucket_of : Option Setting → Option ℕ
bucket_of (Some (set.Bucket bucket)) = Some bucket
bucket_of _ = None

-- the partition in a setting
abbrev pub partition_of : Option Setting → Option RetryPartition
partition_of (Some (set.Partition partition)) = Some partition
partition_of _ = None

-- the retry configuration that stands
abbrev pub standing_retry : StandingLayers → Option RetryConfig
standing_retry settings = retry_of (loaded settings keys.Retry)

-- the number of the bucket in force
abbrev pub standing_bucket : StandingLayers → Option ℕ
standing_bucket settings = bucket_of (loaded settings keys.Bucket)

-- the partition that stands
abbrev pub standing_partition : StandingLayers → Option RetryPartition
standing_partition settings = partition_of (loaded settings keys.Partition)

-- whether the mode paces requests by a limiter
abbrev pub is_adaptive : RetryMode → Bool
is_adaptive Adaptive = true
is_adaptive Standard = false

-- whether a limiter is asked and told
abbrev pub uses_limiter : RetryConfig → Option ℕ → Bool
uses_limiter retry now = is_adaptive retry.mode && is_some now

-- whether a bucket isn't set, or isn't there
abbrev pub lacks_bucket : (ℕ → Bool) → Option ℕ → Bool
lacks_bucket has None = true
lacks_bucket has (Some bucket) = not (has bucket)

-- whether a limiter is to be asked, and no partition says which
abbrev pub lacks_partition : RetryConfig → Option ℕ → Option RetryPartition → Bool
lacks_partition retry now partition = uses_limiter retry now && is_none partition

-- whether something is missing, by the settings one by one
abbrev pub lacks_for : (ℕ → Bool) → Option ℕ → Option ℕ → Option RetryPartition → Option RetryConfig → Bool
lacks_for has now bucket partition None = true
lacks_for has now bucket partition (Some retry) = lacks_bucket has bucket || lacks_partition retry now partition

-- whether a setting is missing: Retry, a bucket that is there, or the partition whose limiter is asked
abbrev pub lacks_setting : StandingLayers → Option ℕ → (ℕ → Bool) → Bool
lacks_setting settings now has =
    lacks_for has now (standing_bucket settings) (standing_partition settings) (standing_retry settings)

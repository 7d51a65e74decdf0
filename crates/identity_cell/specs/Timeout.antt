-- How long a load may take, by the settings that stand.
use Rattle.std.specs.Prelude.{ℕ, ◌+◌, ◌-◌, ◌*◌, ◌^◌, min, max, Option, Some, None, sum_by}
use Rattle.std.specs.List.{range_with_len}
use Rattle.std.specs.Option.{unwrap_or}
use Rattle.smithy_types.specs.Config.{standard_retry}
use Rattle.smithy_types.specs.declared.config.RetryConfig.{RetryConfig}
use Rattle.smithy_types.specs.declared.config.TimeoutConfig.{TimeoutConfig}
use Rattle.smithy_context.specs.Settings.{loaded}
use Rattle.smithy_context.specs.StandingLayers.{StandingLayers}
use Rattle.smithy_context.specs.declared.setting.Setting.{Setting}
use Rattle.smithy_context.specs.declared.setting.Setting.TheVariants as set
use Rattle.smithy_context.specs.declared.setting.SettingKey.TheVariants as keys

-- retries as they are set; without them the standard ones
abbrev pub retry_of : Option Setting → RetryConfig
retry_of (Some (set.Retry retry)) = retry
retry_of _ = standard_retry

-- deadlines as they are set; without them there is none
abbrev pub timeouts_of : Option Setting → TimeoutConfig
timeouts_of (Some (set.Timeouts timeouts)) = timeouts
timeouts_of _ = record { connect = None; read = None; operation = None; attempt = None }

-- the retries that stand; without a setting the standard ones
abbrev pub retry_in : StandingLayers → RetryConfig
retry_in settings = retry_of (loaded settings keys.Retry)

-- the deadlines that stand; without a setting there is none
abbrev pub timeouts_in : StandingLayers → TimeoutConfig
timeouts_in settings = timeouts_of (loaded settings keys.Timeouts)

-- the longest that an attempt may take: connecting twice, in at least 3.1 s each, or its own deadline
abbrev pub attempt_ceiling : TimeoutConfig → ℕ
attempt_ceiling timeouts =
    max (2 * max (unwrap_or timeouts.connect 3100000000) 3100000000) (unwrap_or timeouts.attempt 0)

-- the greatest backoffs before so many retries: each is twice the one before it, and at most the most
abbrev pub backoffs : ℕ → ℕ → ℕ → ℕ
backoffs initial most retries = sum_by (λ i. min (initial * 2 ^ i) most) (range_with_len 0 retries)

-- all attempts with the backoffs between them, and at least one attempt
abbrev pub longest_load : RetryConfig → ℕ → ℕ
longest_load retry ceiling =
    max (backoffs retry.initial_backoff retry.max_backoff (retry.max_attempts - 1) + retry.max_attempts * ceiling)
    ceiling

-- the longest that a load may take by the settings that stand, up to 2^64 - 1 ns
abbrev pub load_timeout : StandingLayers → ℕ
load_timeout settings =
    min (longest_load (retry_in settings) (attempt_ceiling (timeouts_in settings))) 18446744073709551615

-- How the value of each setting stands in JSON: what is printed, and what is read.
use Rattle.std.specs.Prelude.{ℕ, ◌^◌, List, [], ◌∷◌, Bool, true, Option, None, Some}
use Rattle.serde_json.specs.Data.{Data, boolean, string}
use Rattle.serde_json.specs.Find.{as_bool, as_str}
use Rattle.smithy_types.specs.declared.config.ReconnectMode.{ReconnectMode}
use Rattle.smithy_types.specs.declared.config.RetryConfig.{RetryConfig}
use Rattle.smithy_types.specs.declared.config.RetryMode.{RetryMode}
use Rattle.smithy_types.specs.declared.config.RetrySpec.{RetrySpec}
use Rattle.smithy_types.specs.declared.config.RetrySpecVersion.{RetrySpecVersion}
use Rattle.smithy_types.specs.declared.config.StalledStreamProtectionConfig.{StalledStreamProtectionConfig}
use Rattle.smithy_types.specs.declared.config.TimeoutConfig.{TimeoutConfig}
use Rattle.smithy_types.specs.declared.partition.RetryPartition.{RetryPartition}
use Rattle.smithy_context.specs.declared.setting.Setting.{Setting}
use Rattle.smithy_context.specs.declared.setting.Setting.TheVariants as settings
use Rattle.smithy_context.specs.declared.setting.SettingKey.{SettingKey}
use Rattle.smithy_context.specs.declared.setting.SettingKey.TheVariants as keys
use Rattle.json_forms.specs.Forms.{named, optional_at, true_at, texts_at, blob_at}
use Rattle.json_forms.specs.Plain.{number_at, number_below, triple_at, quadruple_at, septuple_at}
use Rattle.json_forms.specs.Prints.{row, num, null_or, texts, blob_data}
use Rattle.json_forms.specs.Reading.{◌>>=◌}
use Rattle.json_values.specs.Names.{mode_text, retry_modes, reconnect_text, reconnect_modes, version_text}
use Rattle.json_values.specs.Names.{spec_versions}

-- ---- what is printed

-- the deadlines, each in nanoseconds or null
unfoldable pub timeouts_data : TimeoutConfig → Data
timeouts_data t =
    row (null_or num t.connect ∷ null_or num t.read ∷ null_or num t.operation ∷ null_or num t.attempt ∷ [])

-- the specification of retries: its version, long polling, and the first backoff where nothing throttles
unfoldable pub spec_data : RetrySpec → Data
spec_data s = row (string (version_text s.version) ∷ boolean s.long_polling ∷ num s.non_throttling_initial_backoff ∷ [])

-- how an operation is retried
unfoldable pub retry_data : RetryConfig → Data
retry_data r = row (string (mode_text r.mode) ∷ num r.max_attempts ∷ num r.initial_backoff ∷ num r.max_backoff
    ∷ string (reconnect_text r.reconnect) ∷ boolean r.static_base ∷ null_or spec_data r.spec ∷ [])

-- whether uploads and downloads that stall are given up, and after which grace period
unfoldable pub stall_data : StalledStreamProtectionConfig → Data
stall_data s = row (boolean s.upload ∷ boolean s.download ∷ num s.grace_period ∷ [])

-- a setting's value; that of a mark is true
unfoldable pub value_data : Setting → Data
value_data (settings.Timeouts value) = timeouts_data value
value_data (settings.Retry value) = retry_data value
value_data (settings.Stall value) = stall_data value
value_data (settings.LoadBody value) = boolean value
value_data (settings.Partition value) = string value.name
value_data (settings.Bucket value) = num value
value_data (settings.Prefix value) = string value
value_data (settings.Preference value) = texts value
value_data settings.V2 = boolean true
value_data settings.EndpointParams = boolean true
value_data settings.AuthParams = boolean true
value_data settings.EnforceLength = boolean true
value_data (settings.Disable value) = texts value
value_data (settings.Capture value) = num value
value_data (settings.Poisoned value) = num value
value_data settings.Upload = boolean true
value_data (settings.User name value) = blob_data value

-- ---- what is read

-- the deadlines, each in nanoseconds or null
unfoldable pub timeouts_at : Data → Option TimeoutConfig
timeouts_at d = quadruple_at d >>= λ p. optional_at number_at p.0 >>= λ c. optional_at number_at p.1 >>= λ r.
    optional_at number_at p.2 >>= λ o. optional_at number_at p.3 >>= λ a.
    Some (record { connect = c; read = r; operation = o; attempt = a })

-- a version of the specification of retries, by its name
unfoldable pub version_at : Data → Option RetrySpecVersion
version_at d = as_str d >>= named version_text spec_versions

-- the specification of retries: its version, long polling, and the first backoff where nothing throttles
unfoldable pub spec_at : Data → Option RetrySpec
spec_at d = triple_at d >>= λ p. version_at p.0 >>= λ v. as_bool p.1 >>= λ l. number_at p.2 >>= λ n.
    Some (record { version = v; long_polling = l; non_throttling_initial_backoff = n })

-- a way to pace retries, by its name
unfoldable pub mode_at : Data → Option RetryMode
mode_at d = as_str d >>= named mode_text retry_modes

-- what becomes of a connection on which a transient failure came, by its name
unfoldable pub reconnect_at : Data → Option ReconnectMode
reconnect_at d = as_str d >>= named reconnect_text reconnect_modes

-- how an operation is retried; the most attempts have 32 bits
unfoldable pub retry_at : Data → Option RetryConfig
retry_at d = septuple_at d >>= λ p. mode_at p.0 >>= λ m. number_below (2 ^ 32) p.1 >>= λ a. number_at p.2 >>= λ i.
    number_at p.3 >>= λ x. reconnect_at p.4 >>= λ r. as_bool p.5 >>= λ b. optional_at spec_at p.6 >>= λ s.
    Some (record {
      mode = m;
      max_attempts = a;
      initial_backoff = i;
      max_backoff = x;
      reconnect = r;
      static_base = b;
      spec = s;
    })

-- whether uploads and downloads that stall are given up, and after which grace period
unfoldable pub stall_at : Data → Option StalledStreamProtectionConfig
stall_at d = triple_at d >>= λ p. as_bool p.0 >>= λ u. as_bool p.1 >>= λ w. number_at p.2 >>= λ g.
    Some (record { upload = u; download = w; grace_period = g })

-- the partition of this name without numbers of its own
abbrev pub default_partition : List ℕ → RetryPartition
default_partition n = record { name = n; custom = None }

-- a mark, which has the value true
abbrev pub marked : Setting → Data → Option Setting
marked s d = true_at d >>= λ _. Some s

-- the value of a key's setting
unfoldable pub setting_at : SettingKey → Data → Option Setting
setting_at keys.Timeouts d = timeouts_at d >>= λ v. Some (settings.Timeouts v)
setting_at keys.Retry d = retry_at d >>= λ v. Some (settings.Retry v)
setting_at keys.Stall d = stall_at d >>= λ v. Some (settings.Stall v)
setting_at keys.LoadBody d = as_bool d >>= λ v. Some (settings.LoadBody v)
setting_at keys.Partition d = as_str d >>= λ v. Some (settings.Partition (default_partition v))
setting_at keys.Bucket d = number_below (2 ^ 32) d >>= λ v. Some (settings.Bucket v)
setting_at keys.Prefix d = as_str d >>= λ v. Some (settings.Prefix v)
setting_at keys.Preference d = texts_at d >>= λ v. Some (settings.Preference v)
setting_at keys.V2 d = marked settings.V2 d
setting_at keys.EndpointParams d = marked settings.EndpointParams d
setting_at keys.AuthParams d = marked settings.AuthParams d
setting_at keys.EnforceLength d = marked settings.EnforceLength d
setting_at keys.Disable d = texts_at d >>= λ v. Some (settings.Disable v)
setting_at keys.Capture d = number_at d >>= λ v. Some (settings.Capture v)
setting_at keys.Poisoned d = number_at d >>= λ v. Some (settings.Poisoned v)
setting_at keys.Upload d = marked settings.Upload d
setting_at (keys.User n) d = blob_at d >>= λ v. Some (settings.User n v)

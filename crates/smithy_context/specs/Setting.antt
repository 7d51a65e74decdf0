-- What a setting is known by, and the table of keys.
use Rattle.std.specs.Prelude.{ℕ, suc, Bool, cond, List, [], ◌∷◌, Option, None, Some, nat_eq, codes, length}
use Rattle.std.specs.List.{position_or_len}
use Rattle.std.specs.Cmp.Lexicographic.{pointwise}
use Rattle.smithy_context.specs.contracts.setting.SettingKeyPartialEq.TheImpl as key_eq
use Rattle.smithy_context.specs.declared.setting.Setting.{Setting}
use Rattle.smithy_context.specs.declared.setting.Setting.TheVariants as settings
use Rattle.smithy_context.specs.declared.setting.SettingKey.{SettingKey}
use Rattle.smithy_context.specs.declared.setting.SettingKey.TheVariants as keys

-- the key under which a setting is stored and loaded
abbrev pub key_of : Setting → SettingKey
key_of (settings.Timeouts value) = keys.Timeouts
key_of (settings.Retry value) = keys.Retry
key_of (settings.Stall value) = keys.Stall
key_of (settings.LoadBody value) = keys.LoadBody
key_of (settings.Partition value) = keys.Partition
key_of (settings.Bucket value) = keys.Bucket
key_of (settings.Prefix value) = keys.Prefix
key_of (settings.Preference value) = keys.Preference
key_of settings.V2 = keys.V2
key_of settings.EndpointParams = keys.EndpointParams
key_of settings.AuthParams = keys.AuthParams
key_of settings.EnforceLength = keys.EnforceLength
key_of (settings.Disable value) = keys.Disable
key_of (settings.Capture value) = keys.Capture
key_of (settings.Poisoned value) = keys.Poisoned
key_of settings.Upload = keys.Upload
key_of (settings.User name value) = keys.User name

-- whether two keys are one, which is what `==` tells; the caller's own keys are told apart by their names
abbrev pub same_key : SettingKey → SettingKey → Bool
same_key = (key_eq.ghosts).eq

-- ---- the table of keys

-- each key but the caller's own, with its name in scripts and prints, in the order of settings
abbrev pub key_table : List (SettingKey × List ℕ)
key_table =
    (keys.Timeouts, codes "timeouts")
    ∷ (keys.Retry, codes "retry")
    ∷ (keys.Stall, codes "stall")
    ∷ (keys.LoadBody, codes "load_body")
    ∷ (keys.Partition, codes "partition")
    ∷ (keys.Bucket, codes "bucket")
    ∷ (keys.Prefix, codes "prefix")
    ∷ (keys.Preference, codes "preference")
    ∷ (keys.V2, codes "v2")
    ∷ (keys.EndpointParams, codes "endpoint_params")
    ∷ (keys.AuthParams, codes "auth_params")
    ∷ (keys.EnforceLength, codes "enforce_length")
    ∷ (keys.Disable, codes "disable")
    ∷ (keys.Capture, codes "capture")
    ∷ (keys.Poisoned, codes "poisoned")
    ∷ (keys.Upload, codes "upload")
    ∷ []

-- the name beside a key in these rows, and `user` where it is in none
abbrev pub name_in : List (SettingKey × List ℕ) → SettingKey → List ℕ
name_in [] k = codes "user"
name_in (row ∷ rows) k = cond (same_key row.0 k) row.1 (name_in rows k)

-- the key beside a name in these rows
abbrev pub key_in : List (SettingKey × List ℕ) → List ℕ → Option SettingKey
key_in [] name = None
key_in (row ∷ rows) name = cond (pointwise nat_eq name row.1) (Some row.0) (key_in rows name)

-- a key's name in scripts and prints: the caller's own keys share one, and have their own behind it
unfoldable pub key_name : SettingKey → List ℕ
key_name k = name_in key_table k

-- the key of the table that has this name
unfoldable pub key_named : List ℕ → Option SettingKey
key_named name = key_in key_table name

-- a key's place in the order of settings, from 0 on: those of the caller's own come last, and share one
unfoldable pub place : SettingKey → ℕ
place k = position_or_len (λ (row : SettingKey × List ℕ). same_key row.0 k) key_table

-- how many places there are: one for each row of the table, and one for the caller's own keys
abbrev pub places : ℕ
places = suc (length key_table)

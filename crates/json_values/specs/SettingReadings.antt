-- Which keys of settings and which layers JSON spells.
use Rattle.std.specs.Prelude.{ℕ, List, Option, Some, None, ◌&&◌, codes, drop, take, length, nat_le, nat_eq}
use Rattle.std.specs.Prelude.{if◌then◌else◌}
use Rattle.std.specs.Cmp.Lexicographic.{pointwise}
use Rattle.serde_json.specs.Data.{Data}
use Rattle.serde_json.specs.Find.{as_str, as_array}
use Rattle.smithy_context.specs.Layer.{entry}
use Rattle.smithy_context.specs.Setting.{key_named}
use Rattle.smithy_context.specs.declared.layer.LayerEntry.{LayerEntry}
use Rattle.smithy_context.specs.declared.setting.SettingKey.{SettingKey}
use Rattle.smithy_context.specs.declared.setting.SettingKey.TheVariants as keys
use Rattle.json_forms.specs.Forms.{optional_at}
use Rattle.json_forms.specs.Lists.{list_of, named_once}
use Rattle.json_forms.specs.Plain.{pair_at}
use Rattle.json_forms.specs.Reading.{◌>>=◌}
use Rattle.json_values.specs.SettingForms.{setting_at}

-- ---- keys

-- what stands behind `user.`
unfoldable pub user_key : List ℕ → Option SettingKey
user_key s = if nat_le 5 (length s) && pointwise nat_eq (take 5 s) (codes "user.") then Some (keys.User (drop 5 s))
    else None

-- the first reading, or the second where there is no first
abbrev pub or_read : {X : Type 0} → Option X → Option X → Option X
or_read None other = other
or_read (Some x) other = Some x

-- the key that prints so: one of the table by its name, one of the caller's own behind `user.`
unfoldable pub key_of_text : List ℕ → Option SettingKey
key_of_text s = or_read (key_named s) (user_key s)

-- ---- layers

-- a key with its setting, or with null for the mark Unset
unfoldable pub layer_entry_at : Data → Option LayerEntry
layer_entry_at d = pair_at d >>= λ p. as_str p.0 >>= key_of_text >>= λ k. optional_at (setting_at k) p.1 >>= λ v.
    Some (entry k v)

-- entries with different keys
unfoldable pub layer_at : Data → Option (List LayerEntry)
layer_at d = as_array d >>= λ ds. named_once ds >>= λ _. list_of layer_entry_at ds

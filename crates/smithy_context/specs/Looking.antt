-- What a layer and settings say of a key after a change.
use Rattle.std.specs.Prelude.{true, cond, Option, Some, List, ◌≡◌, option_and_then}
use Rattle.smithy_context.specs.declared.layer.LayerEntry.{LayerEntry}
use Rattle.smithy_context.specs.declared.setting.Setting.{Setting}
use Rattle.smithy_context.specs.declared.setting.SettingKey.{SettingKey}
use Rattle.smithy_context.specs.Setting.{same_key}
use Rattle.smithy_context.specs.Layer.{entry_at, keys_once, put_entry, merged}
use Rattle.smithy_context.specs.Settings.{or_else, last_entry, loaded, with_layer, with_merged}
use Rattle.smithy_context.specs.StandingLayers.{StandingLayers}

-- the key has this entry, and every other key what it had
abbrev pub PutsOne : Type 0
PutsOne =
    (l : List LayerEntry) (e : LayerEntry) (k : SettingKey) →
    entry_at (put_entry l e) k ≡ cond (same_key e.key k) (Some e) (entry_at l k)

-- where no key stands twice, none does after a put
abbrev pub KeepsKeysOnce : Type 0
KeepsKeysOnce = (l : List LayerEntry) (e : LayerEntry) → keys_once l ≡ true → keys_once (put_entry l e) ≡ true

-- each key that the second layer mentions stands as it says there, and every other key as it stood
abbrev pub MergesOver : Type 0
MergesOver =
    (l m : List LayerEntry) (k : SettingKey) → keys_once m ≡ true →
    entry_at (merged l m) k ≡ or_else (entry_at m k) (entry_at l k)

-- the value in an entry; none where no entry stands, or where it says that the key is unset
abbrev pub value_in : Option LayerEntry → Option Setting
value_in e = option_and_then (λ (x : LayerEntry). x.value) e

-- a merged layer is asked before all that stood
abbrev pub MergedComesFirst : Type 0
MergedComesFirst = (s : StandingLayers) (l : List LayerEntry) (k : SettingKey) → keys_once l ≡ true →
    loaded (with_merged s l) k
    ≡ value_in (or_else (entry_at l k) (or_else (entry_at s.state k) (last_entry s.pushed k)))

-- a pushed layer is asked after the state layer, and before the layers that were pushed earlier
abbrev pub PushedComesSecond : Type 0
PushedComesSecond = (s : StandingLayers) (l : List LayerEntry) (k : SettingKey) →
    loaded (with_layer s l) k ≡ value_in (or_else (entry_at s.state k) (or_else (entry_at l k) (last_entry s.pushed k)))

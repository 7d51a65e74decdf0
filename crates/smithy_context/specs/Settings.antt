-- What settings say of a key.
use Rattle.std.specs.Prelude.{Option, Some, None, List, [], ◌∷◌, ◌++◌, option_and_then}
use Rattle.smithy_context.specs.declared.setting.Setting.{Setting}
use Rattle.smithy_context.specs.declared.setting.SettingKey.{SettingKey}
use Rattle.smithy_context.specs.declared.layer.LayerEntry.{LayerEntry}
use Rattle.smithy_context.specs.Layer.{entry_at, merged}
use Rattle.smithy_context.specs.StandingLayers.{StandingLayers}

-- settings before anything is set
abbrev pub no_layers : StandingLayers
no_layers = record { pushed = []; state = [] }

-- the settings with a layer pushed above the earlier ones
abbrev pub with_layer : StandingLayers → List LayerEntry → StandingLayers
with_layer s l = record { pushed = s.pushed ++ l ∷ []; state = s.state }

-- the settings with a layer merged into the state layer
abbrev pub with_merged : StandingLayers → List LayerEntry → StandingLayers
with_merged s l = record { pushed = s.pushed; state = merged s.state l }

-- the first where there is one, else the second
abbrev pub or_else : {T : Type 0} → Option T → Option T → Option T
or_else None other = other
or_else (Some x) other = Some x

-- the key's entry in the last of the layers that mentions it
abbrev pub last_entry : List (List LayerEntry) → SettingKey → Option LayerEntry
last_entry [] k = None
last_entry (l ∷ ls) k = or_else (last_entry ls k) (entry_at l k)

-- the value of the last layer that mentions the key, and none where that layer holds it unset, or no layer mentions it
abbrev pub loaded : StandingLayers → SettingKey → Option Setting
loaded s k = option_and_then (λ (e : LayerEntry). e.value) (or_else (entry_at s.state k) (last_entry s.pushed k))

-- What a resolver answers: the latest value, else the initial one.
use Rattle.std.specs.Prelude.{Bool, false, Option, None, Some, List, option_and_then}
use Rattle.smithy_context.specs.declared.layer.LayerEntry.{LayerEntry}
use Rattle.smithy_context.specs.declared.setting.Setting.{Setting}
use Rattle.smithy_context.specs.declared.setting.SettingKey.{SettingKey}
use Rattle.smithy_context.specs.Layer.{mentioned}
use Rattle.smithy_base.specs.declared.initial_config.InitialConfig.{InitialConfig}

-- the value that a layer has for the key
abbrev pub value_in : List LayerEntry → SettingKey → Option Setting
value_in l k = option_and_then (λ v. v) (mentioned l k)

-- the value of the initial layer, where there is one
abbrev pub initial_value : Option InitialConfig → SettingKey → Option Setting
initial_value None k = None
initial_value (Some i) k = value_in i.config k

-- whether the initial parts have a sleep
abbrev pub initial_sleep : Option InitialConfig → Bool
initial_sleep None = false
initial_sleep (Some i) = i.components.sleep

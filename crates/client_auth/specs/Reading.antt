-- What is read of the settings that stand.
use Rattle.std.specs.Prelude.{ℕ, Bool, true, false, List, Option, None, Some}
use Rattle.smithy_context.specs.Settings.{loaded}
use Rattle.smithy_context.specs.StandingLayers.{StandingLayers}
use Rattle.smithy_context.specs.declared.setting.Setting.{Setting}
use Rattle.smithy_context.specs.declared.setting.Setting.TheVariants as set
use Rattle.smithy_context.specs.declared.setting.SettingKey.TheVariants as keys

-- the setting is the mark V2
abbrev pub is_v2 : Option Setting → Bool
is_v2 (Some set.V2) = true
is_v2 _ = false

-- the mark by which the endpoint is resolved once a scheme is chosen
abbrev pub has_v2 : StandingLayers → Bool
has_v2 settings = is_v2 (loaded settings keys.V2)

-- the schemes that a setting prefers
abbrev pub preference_of : Option Setting → Option (List (List ℕ))
preference_of (Some (set.Preference names)) = Some names
preference_of _ = None

-- the schemes that are preferred
abbrev pub standing_preference : StandingLayers → Option (List (List ℕ))
standing_preference settings = preference_of (loaded settings keys.Preference)

-- the prefix that a setting has
abbrev pub prefix_of : Option Setting → Option (List ℕ)
prefix_of (Some (set.Prefix text)) = Some text
prefix_of _ = None

-- what is put before the endpoint's authority
abbrev pub standing_prefix : StandingLayers → Option (List ℕ)
standing_prefix settings = prefix_of (loaded settings keys.Prefix)

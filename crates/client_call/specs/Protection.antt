-- How the settings that stand protect a body.
use Rattle.std.specs.Prelude.{Bool, true, false, ◌&&◌, ◌||◌, if◌then◌else◌, Option, None, Some}
use Rattle.smithy_context.specs.Settings.{loaded}
use Rattle.smithy_context.specs.StandingLayers.{StandingLayers}
use Rattle.smithy_context.specs.declared.setting.Setting.{Setting}
use Rattle.smithy_context.specs.declared.setting.Setting.TheVariants as set
use Rattle.smithy_context.specs.declared.setting.SettingKey.TheVariants as keys
use Rattle.smithy_types.specs.declared.config.StalledStreamProtectionConfig.{StalledStreamProtectionConfig}
use Rattle.stream_guard.specs.Options.{default_options}
use Rattle.stream_guard.specs.declared.options.MinimumThroughputBodyOptions.{MinimumThroughputBodyOptions}

-- which streams a setting says to give up where they stall
abbrev pub stall_of : Option Setting → Option StalledStreamProtectionConfig
stall_of (Some (set.Stall config)) = Some config
stall_of _ = None

-- the setting is the mark that the length is enforced
abbrev pub is_enforced : Option Setting → Bool
is_enforced (Some set.EnforceLength) = true
is_enforced _ = false

-- the setting is the mark that the upload is watched
abbrev pub is_marked : Option Setting → Bool
is_marked (Some set.Upload) = true
is_marked _ = false

-- which streams are given up where they stall, where it is set
abbrev pub standing_stall : StandingLayers → Option StalledStreamProtectionConfig
standing_stall settings = stall_of (loaded settings keys.Stall)

-- when a response's body stalls: it is watched where its protection is on
abbrev pub download_options : Option StalledStreamProtectionConfig → Option MinimumThroughputBodyOptions
download_options None = None
download_options (Some config) =
    if config.download then Some (record default_options { grace_period = config.grace_period }) else None

-- whether a response's body is held to the length that it declares
abbrev pub enforces_length : StandingLayers → Bool
enforces_length settings = is_enforced (loaded settings keys.EnforceLength)

-- whether the mark stands that the upload is watched
abbrev pub upload_marked : StandingLayers → Bool
upload_marked settings = is_marked (loaded settings keys.Upload)

-- when an upload stalls: it is watched where the mark stands and a protection is on
abbrev pub upload_options : Bool → Option StalledStreamProtectionConfig → Option MinimumThroughputBodyOptions
upload_options marked None = None
upload_options marked (Some config) =
    if marked && (config.upload || config.download)
    then Some (record default_options { grace_period = config.grace_period })
    else None

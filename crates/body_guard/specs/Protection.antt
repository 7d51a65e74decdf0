-- What the two interceptors of guards answer.
use Rattle.std.specs.Prelude.{ℕ, Bool, true, false, not, ◌&&◌, ◌==◌, if◌then◌else◌, List, [], ◌∷◌, codes, length}
use Rattle.std.specs.Prelude.{bytes_eq, Option, None, Some}
use Rattle.smithy_context.specs.Layer.{entry}
use Rattle.smithy_context.specs.Setting.{key_of}
use Rattle.smithy_context.specs.Settings.{loaded}
use Rattle.smithy_context.specs.StandingLayers.{StandingLayers}
use Rattle.smithy_context.specs.declared.intercept.HookAnswer.{HookAnswer}
use Rattle.smithy_context.specs.declared.intercept.HookView.{HookView}
use Rattle.smithy_context.specs.declared.setting.Setting.{Setting}
use Rattle.smithy_context.specs.declared.setting.Setting.TheVariants as set
use Rattle.smithy_context.specs.declared.setting.SettingKey.TheVariants as keys
use Rattle.smithy_types.specs.declared.config.StalledStreamProtectionConfig.{StalledStreamProtectionConfig}
use Rattle.smithy_types.specs.declared.hook.Hook.{Hook}
use Rattle.smithy_types.specs.declared.hook.Hook.TheVariants as hooks
use Rattle.smithy_types.specs.declared.http.Body.{Body}
use Rattle.smithy_types.specs.declared.http.Body.TheVariants as body
use Rattle.smithy_types.specs.declared.http.HttpRequest.{HttpRequest}

-- a hook's answer that changes nothing, sets nothing and doesn't fail
abbrev pub nothing_done : HookAnswer
nothing_done = record { change = None; settings = []; failure = None }

-- this setting alone
abbrev pub sets : Setting → HookAnswer
sets setting = record { change = None; settings = entry (key_of setting) (Some setting) ∷ []; failure = None }

-- the hook fails with this text
abbrev pub fails : List ℕ → HookAnswer
fails text = record { change = None; settings = []; failure = Some text }

-- the hook in which an upload comes under protection
abbrev pub is_before_transmit : Hook → Bool
is_before_transmit hooks.ModifyBeforeTransmit = true
is_before_transmit _ = false

-- the hook that refuses the protection of a download where a part for it is missing
abbrev pub is_before_deserialization : Hook → Bool
is_before_deserialization hooks.ModifyBeforeDeserialization = true
is_before_deserialization _ = false

-- the hook that has declared lengths enforced
abbrev pub is_read_before_transmit : Hook → Bool
is_read_before_transmit hooks.ReadBeforeTransmit = true
is_read_before_transmit _ = false

-- the stalled stream protection in a setting
abbrev pub stall_of : Option Setting → Option StalledStreamProtectionConfig
stall_of (Some (set.Stall stall)) = Some stall
stall_of _ = None

-- how streams are protected, where that is set
abbrev pub standing_stall : StandingLayers → Option StalledStreamProtectionConfig
standing_stall settings = stall_of (loaded settings keys.Stall)

-- whether the body is in memory and has no bytes
abbrev pub is_empty_bytes : Body → Bool
is_empty_bytes (body.Bytes bytes) = length bytes == 0
is_empty_bytes _ = false

-- whether the request's body is in memory and has no bytes
abbrev pub has_whole_empty_body : Option HttpRequest → Bool
has_whole_empty_body (Some request) = is_empty_bytes request.body
has_whole_empty_body None = false

-- whether the configuration protects the body of this request
abbrev pub protects_upload : Option StalledStreamProtectionConfig → Option HttpRequest → Bool
protects_upload (Some stall) request = stall.upload && not (has_whole_empty_body request)
protects_upload None request = false

-- whether the configuration protects the bodies of responses
abbrev pub protects_download : Option StalledStreamProtectionConfig → Bool
protects_download (Some stall) = stall.download
protects_download None = false

-- whether the request's body is protected, which it isn't where it is in memory and has no bytes
abbrev pub watches_upload : HookView → Bool
watches_upload view = protects_upload (standing_stall view.settings) view.request

-- whether the response's body is protected
abbrev pub watches_download : StandingLayers → Bool
watches_download settings = protects_download (standing_stall settings)

-- the part that is missing first, of sleeps and a time source
abbrev pub missing_part : Bool → Bool → Option (List ℕ)
missing_part false time =
    Some (codes "An async sleep implementation is required when stalled stream protection is enabled")
missing_part true false = Some (codes "A time source is required when stalled stream protection is enabled")
missing_part true true = None

-- a failure where there is a text for it, else the answer
abbrev pub fails_or : Option (List ℕ) → HookAnswer → HookAnswer
fails_or (Some text) answer = fails text
fails_or None answer = answer

-- this answer, but for a failure where a part is missing
abbrev pub needs_parts : Bool → Bool → HookAnswer → HookAnswer
needs_parts sleep time answer = fails_or (missing_part sleep time) answer

-- with sleeps or none, and with a time source or none
abbrev pub protection_answer : Hook → Bool → Bool → HookView → HookAnswer
protection_answer hook sleep time view =
    if is_before_transmit hook && watches_upload view then needs_parts sleep time (sets set.Upload)
    else if is_before_deserialization hook && watches_download view.settings then needs_parts sleep time nothing_done
    else nothing_done

-- whether the request has the method GET
abbrev pub is_get : Option HttpRequest → Bool
is_get (Some request) = bytes_eq request.method (codes "GET")
is_get None = false

-- the declared length is enforced on the response to a GET request, and on no other
abbrev pub enforcing_answer : Hook → HookView → HookAnswer
enforcing_answer hook view =
    if is_read_before_transmit hook && is_get view.request then sets set.EnforceLength else nothing_done

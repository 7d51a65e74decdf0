-- What the host is to send.
use Rattle.std.specs.Prelude.{ℕ, Option, None, Some}
use Rattle.smithy_context.specs.Settings.{loaded}
use Rattle.smithy_context.specs.StandingLayers.{StandingLayers}
use Rattle.smithy_context.specs.declared.setting.Setting.{Setting}
use Rattle.smithy_context.specs.declared.setting.Setting.TheVariants as setting
use Rattle.smithy_context.specs.declared.setting.SettingKey.TheVariants as key
use Rattle.smithy_types.specs.declared.config.TimeoutConfig.{TimeoutConfig}
use Rattle.smithy_types.specs.declared.http.HttpRequest.{HttpRequest}
use Rattle.outside_hosted.specs.declared.call.Order.{Order}

-- the deadlines that a setting says
abbrev pub timeouts_of : Option Setting → Option TimeoutConfig
timeouts_of (Some (setting.Timeouts timeouts)) = Some timeouts
timeouts_of _ = None

-- the attempt to remember that a setting says
abbrev pub capture_of : Option Setting → Option ℕ
capture_of (Some (setting.Capture number)) = Some number
capture_of _ = None

-- the request as it was handed over, with what the settings say of deadlines and of the attempt
abbrev pub order_of : HttpRequest → StandingLayers → Order
order_of request settings = record {
  request = request;
  timeouts = timeouts_of (loaded settings key.Timeouts);
  capture = capture_of (loaded settings key.Capture);
}

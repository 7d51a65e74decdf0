-- Which payloads the values of the service's model are.
use Rattle.std.specs.Prelude.{ℕ, Bool, ◌&&◌, ◌||◌, ◌==◌, if◌then◌else◌, List, Option, None, Some, codes, bytes_eq}
use Rattle.smithy_runtime.specs.Types.ErrorKind.{ErrorKind}
use Rattle.smithy_runtime.specs.Types.ErrorKind.TheVariants.{ServerError}
use Rattle.smithy_runtime.specs.Types.Payload.{Payload}
use Rattle.example_forecast.specs.declared.forecasts.model.ForecastError.{ForecastError}
use Rattle.example_forecast.specs.declared.forecasts.model.ForecastError.TheVariants.{StationAsleep, NoSuchStation}
use Rattle.example_forecast.specs.declared.forecasts.model.Sky.{Sky}
use Rattle.example_forecast.specs.declared.forecasts.model.Sky.TheVariants.{Clear, Rain, Snow}

-- ---- how the sky will be

-- the bytes of a sky
abbrev pub sky_name : Sky → List ℕ
sky_name Clear = codes "clear"
sky_name Rain = codes "rain"
sky_name Snow = codes "snow"

-- the sky that these bytes name, where they name one
abbrev pub sky_of : List ℕ → Sky
sky_of bytes = if bytes_eq bytes (codes "rain") then Rain else if bytes_eq bytes (codes "snow") then Snow else Clear

-- a payload of kind 2 that names a sky
abbrev pub is_sky : Payload → Bool
is_sky p =
    (p.kind == 2)
    && (bytes_eq p.bytes (codes "clear") || bytes_eq p.bytes (codes "rain") || bytes_eq p.bytes (codes "snow"))

-- ---- the error

-- the bytes of an error
abbrev pub error_name : ForecastError → List ℕ
error_name StationAsleep = codes "StationAsleep"
error_name NoSuchStation = codes "NoSuchStation"

-- the error that these bytes name, where they name one
abbrev pub error_of : List ℕ → ForecastError
error_of bytes = if bytes_eq bytes (codes "StationAsleep") then StationAsleep else NoSuchStation

-- a payload of kind 3 that names an error
abbrev pub is_error : Payload → Bool
is_error p = (p.kind == 3) && (bytes_eq p.bytes (codes "StationAsleep") || bytes_eq p.bytes (codes "NoSuchStation"))

-- a station that sleeps is the server's fault, and one that isn't there tells nothing of a retry
abbrev pub kind_of_error : ForecastError → Option ErrorKind
kind_of_error StationAsleep = Some ServerError
kind_of_error NoSuchStation = None

-- what a payload that is an error tells of a retry; any other tells nothing
abbrev pub kind_in : Payload → Option ErrorKind
kind_in p = if is_error p then kind_of_error (error_of p.bytes) else None

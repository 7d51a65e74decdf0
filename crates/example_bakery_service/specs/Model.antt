-- Which payloads the values of the service's model are.
use Rattle.std.specs.Prelude.{ℕ, Bool, ◌&&◌, ◌||◌, ◌==◌, if◌then◌else◌, List, Option, None, Some, codes, bytes_eq}
use Rattle.smithy_types.specs.declared.kinds.ErrorKind.{ErrorKind}
use Rattle.smithy_types.specs.declared.kinds.ErrorKind.TheVariants.{ThrottlingError}
use Rattle.smithy_types.specs.declared.payload.Payload.{Payload}
use Rattle.example_bakery_service.specs.declared.model.BakeryError.{BakeryError}
use Rattle.example_bakery_service.specs.declared.model.BakeryError.TheVariants.{OvenBusy, NoSuchOrder}
use Rattle.example_bakery_service.specs.declared.model.OrderState.{OrderState}
use Rattle.example_bakery_service.specs.declared.model.OrderState.TheVariants.{Baking, Ready}

-- ---- how far an order is

-- the bytes of a state
abbrev pub state_name : OrderState → List ℕ
state_name Baking = codes "baking"
state_name Ready = codes "ready"

-- the state that these bytes name, where they name one
abbrev pub state_of : List ℕ → OrderState
state_of bytes = if bytes_eq bytes (codes "ready") then Ready else Baking

-- a payload of kind 5 that names a state
abbrev pub is_state : Payload → Bool
is_state p = (p.kind == 5) && (bytes_eq p.bytes (codes "baking") || bytes_eq p.bytes (codes "ready"))

-- ---- the error

-- the bytes of an error
abbrev pub error_name : BakeryError → List ℕ
error_name OvenBusy = codes "OvenBusy"
error_name NoSuchOrder = codes "NoSuchOrder"

-- the error that these bytes name, where they name one
abbrev pub error_of : List ℕ → BakeryError
error_of bytes = if bytes_eq bytes (codes "OvenBusy") then OvenBusy else NoSuchOrder

-- a payload of kind 3 that names an error
abbrev pub is_error : Payload → Bool
is_error p = (p.kind == 3) && (bytes_eq p.bytes (codes "OvenBusy") || bytes_eq p.bytes (codes "NoSuchOrder"))

-- a busy oven throttles, and an order that isn't there tells nothing of a retry
abbrev pub kind_of_error : BakeryError → Option ErrorKind
kind_of_error OvenBusy = Some ThrottlingError
kind_of_error NoSuchOrder = None

-- what a payload that is an error tells of a retry; any other tells nothing
abbrev pub kind_in : Payload → Option ErrorKind
kind_in p = if is_error p then kind_of_error (error_of p.bytes) else None

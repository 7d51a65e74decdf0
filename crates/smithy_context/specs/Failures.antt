-- From a failure to the error that a caller sees, as the Rust crate's orchestrator maps it.
use Rattle.std.specs.Prelude.{Bool, true, false, cond, Option, Some, None}
use Rattle.smithy_types.specs.declared.fault.Fault.{Fault}
use Rattle.smithy_types.specs.declared.fault.FaultKind.{FaultKind}
use Rattle.smithy_types.specs.declared.fault.FaultKind.TheVariants.{Interceptor, Operation, Connector, Timeout}
use Rattle.smithy_types.specs.declared.fault.FaultKind.TheVariants.{Response, Other}
use Rattle.smithy_types.specs.declared.fault.Outcome.{Outcome}
use Rattle.smithy_types.specs.declared.fault.Outcome.TheVariants.{Output, Failed}
use Rattle.smithy_types.specs.declared.fault.SdkError.{SdkError}
use Rattle.smithy_types.specs.declared.fault.SdkError.TheVariants.{ConstructionFailure, TimeoutError, DispatchFailure}
use Rattle.smithy_types.specs.declared.fault.SdkError.TheVariants.{ResponseError, ServiceError}
use Rattle.smithy_types.specs.declared.http.HttpResponse.{HttpResponse}
use Rattle.smithy_types.specs.declared.kinds.Phase.{Phase}
use Rattle.smithy_types.specs.declared.kinds.Phase.TheVariants.{BeforeSerialization, Serialization}
use Rattle.smithy_types.specs.declared.payload.Payload.{Payload}

-- whether there is an outcome, and it is a failure
abbrev pub is_failure : Option Outcome → Bool
is_failure (Some (Failed fault)) = true
is_failure _ = false

-- up to serialization the request wasn't built
abbrev pub is_building : Phase → Bool
is_building BeforeSerialization = true
is_building Serialization = true
is_building _ = false

-- a failure whose kind says nothing of where it came: up to serialization nothing was built, and later a held
-- response tells
abbrev pub later_error : Fault → Option HttpResponse → SdkError Payload
later_error f (Some r) = ResponseError f r
later_error f None = DispatchFailure f

-- the error of a failure whose kind says nothing of where it came, by the phase and the held response
abbrev pub untyped_error : Fault → Phase → Option HttpResponse → SdkError Payload
untyped_error f p r = cond (is_building p) (ConstructionFailure f) (later_error f r)

-- a failure of the response is a ResponseError where one is held, else as if its kind said nothing
abbrev pub response_error : Fault → Phase → Option HttpResponse → SdkError Payload
response_error f p (Some r) = ResponseError f r
response_error f p None = untyped_error f p None

-- the service's own error beside its response; without a response it is as if the kind said nothing
abbrev pub operation_error : Payload → Fault → Phase → Option HttpResponse → SdkError Payload
operation_error e f p (Some r) = ServiceError e r
operation_error e f p None = untyped_error f p None

-- the error that a caller sees of a failure of this kind
abbrev pub kind_error : FaultKind → Fault → Phase → Option HttpResponse → SdkError Payload
kind_error (Connector k) f p r = DispatchFailure f
kind_error Timeout f p r = TimeoutError f
kind_error Response f p r = response_error f p r
kind_error (Operation e) f p r = operation_error e f p r
kind_error (Interceptor h) f p r = untyped_error f p r
kind_error Other f p r = untyped_error f p r

-- the error that a caller sees of a failure in this phase, with this response held
abbrev pub sdk_error_of : Fault → Phase → Option HttpResponse → SdkError Payload
sdk_error_of f p r = kind_error f.kind f p r

-- the service's own error, and any other failure as one of the response
abbrev pub modelled_error : FaultKind → Fault → HttpResponse → SdkError Payload
modelled_error (Operation e) f r = ServiceError e r
modelled_error _ f r = ResponseError f r

-- What each classifier of the crate says of a context.
use Rattle.std.specs.Prelude.{ℕ, ◌==◌, Bool, true, false, if◌then◌else◌, List, Option, None, Some}
use Rattle.std.specs.List.{list_any}
use Rattle.smithy_context.specs.declared.context.InterceptorContext.{InterceptorContext}
use Rattle.smithy_types.specs.declared.fault.Fault.{Fault}
use Rattle.smithy_types.specs.declared.fault.FaultKind.{FaultKind}
use Rattle.smithy_types.specs.declared.fault.FaultKind.TheVariants as fault
use Rattle.smithy_types.specs.declared.fault.Outcome.{Outcome}
use Rattle.smithy_types.specs.declared.fault.Outcome.TheVariants.{Output, Failed}
use Rattle.smithy_types.specs.declared.http.HttpResponse.{HttpResponse}
use Rattle.smithy_types.specs.declared.kinds.ConnectorKind.{ConnectorKind}
use Rattle.smithy_types.specs.declared.kinds.ConnectorKind.TheVariants as connector
use Rattle.smithy_types.specs.declared.kinds.ErrorKind.{ErrorKind}
use Rattle.smithy_types.specs.declared.kinds.ErrorKind.TheVariants.{TransientError}
use Rattle.smithy_types.specs.declared.notes.RetryAction.{RetryAction}
use Rattle.smithy_types.specs.declared.notes.RetryAction.TheVariants.{NoActionIndicated, RetryIndicated}
use Rattle.smithy_types.specs.declared.payload.Payload.{Payload}

-- a retry for an error of this kind, without a delay of its own
abbrev pub retry_for : Option ErrorKind → RetryAction
retry_for None = NoActionIndicated
retry_for (Some kind) = RetryIndicated kind None

-- the kind of the failure that stands
abbrev pub failure_kind : Option Outcome → Option FaultKind
failure_kind (Some (Failed f)) = Some f.kind
failure_kind _ = None

-- a response with one of these statuses
abbrev pub kind_of_status : List ℕ → Option HttpResponse → Option ErrorKind
kind_of_status codes None = None
kind_of_status codes (Some r) = if list_any (λ code. code == r.status) codes then Some TransientError else None

-- what the classifier of these status codes says of the response
abbrev pub status_says : List ℕ → InterceptorContext → RetryAction
status_says codes c = retry_for (kind_of_status codes c.view.response)

-- a failure of the operation, as the caller's type tells its kind
abbrev pub modeled_kind : (Payload → Option ErrorKind) → Option FaultKind → Option ErrorKind
modeled_kind kind_in (Some (fault.Operation payload)) = kind_in payload
modeled_kind kind_in _ = None

-- what the classifier of the service's own errors says of the outcome
abbrev pub modeled_says : (Payload → Option ErrorKind) → InterceptorContext → RetryAction
modeled_says kind_in c = retry_for (modeled_kind kind_in (failure_kind c.view.outcome))

-- what a connector's failure counts as
abbrev pub connector_error : ConnectorKind → Option ErrorKind
connector_error connector.Timeout = Some TransientError
connector_error connector.User = None
connector_error connector.Io = Some TransientError
connector_error (connector.Other kind) = kind

-- a failure of the connection or of a response, and a deadline's
abbrev pub transient_kind : Option FaultKind → Option ErrorKind
transient_kind (Some fault.Response) = Some TransientError
transient_kind (Some fault.Timeout) = Some TransientError
transient_kind (Some (fault.Connector kind)) = connector_error kind
transient_kind _ = None

-- what the classifier of transient failures says of the outcome
abbrev pub transient_says : InterceptorContext → RetryAction
transient_says c = retry_for (transient_kind (failure_kind c.view.outcome))

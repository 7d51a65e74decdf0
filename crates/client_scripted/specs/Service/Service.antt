-- The requests and responses of the program's service.
use Rattle.std.specs.Prelude.{◌≡◌, ℕ, Bool, ◌||◌, ◌==◌, nat_lt, if◌then◌else◌, List, [], ◌++◌, Option, None, Some}
use Rattle.std.specs.Prelude.{codes, bytes_eq}
use Rattle.std.specs.Fmt.{decimal}
use Rattle.smithy_types.specs.declared.fault.Outcome.{Outcome}
use Rattle.smithy_types.specs.declared.fault.Outcome.TheVariants.{Output, Failed}
use Rattle.smithy_types.specs.declared.fault.FaultKind.TheVariants.{Operation}
use Rattle.smithy_types.specs.declared.http.Body.TheVariants.{Bytes}
use Rattle.smithy_types.specs.declared.http.HttpRequest.{HttpRequest}
use Rattle.smithy_types.specs.declared.http.HttpResponse.{HttpResponse}
use Rattle.smithy_types.specs.declared.kinds.ErrorKind.{ErrorKind}
use Rattle.smithy_types.specs.declared.kinds.ErrorKind.TheVariants.{ThrottlingError, TransientError, ServerError}
use Rattle.smithy_types.specs.declared.payload.Payload.{Payload}
use Rattle.smithy_types.specs.declared.identity.Identity.{Identity}
use Rattle.client_auth.specs.Responses.{body_bytes}
use Rattle.auth_endpoint.specs.declared.scheme.Signed.{Signed}
use Rattle.client_builder.specs.declared.scheme.Scheme.{Scheme}
use Rattle.client_builder.specs.declared.scheme.Scheme.TheVariants.{NoAuth, Brought}
use Rattle.http_schemes.specs.Signing.{SignsByHeader, SignsByKey}
use Rattle.client_scripted.specs.declared.service.scheme.ServiceScheme.{ServiceScheme}
use Rattle.client_scripted.specs.declared.service.scheme.ServiceScheme.TheVariants.{Header, Bearer, ApiKey}

-- an input is posted to the service's root
abbrev pub posted : Payload → HttpRequest
posted input = record { method = codes "POST"; uri = codes "/"; headers = []; body = Bytes input.bytes }

-- a response of this status is an output
abbrev pub is_output : ℕ → Bool
is_output status = nat_lt status 400 || (status == 418)

-- the text of an error of this status
abbrev pub status_text : ℕ → List ℕ
status_text status = codes "status " ++ decimal status

-- a response below 400, and 418, is an output of kind 1, and any other an error of kind 2
abbrev pub read_outcome : HttpResponse → Outcome
read_outcome response =
    if is_output response.status then Output (record { kind = 1; bytes = body_bytes response.body })
    else Failed (record {
      kind = Operation (record { kind = 2; bytes = body_bytes response.body });
      text = status_text response.status;
    })

-- the kind that an error's bytes name
abbrev pub kind_of_error : List ℕ → Option ErrorKind
kind_of_error bytes =
    if bytes_eq bytes (codes "throttle") then Some ThrottlingError
    else if bytes_eq bytes (codes "transient") then Some TransientError
    else if bytes_eq bytes (codes "server") then Some ServerError
    else None

-- ---- signing

-- the service's own scheme of an id: of `noAuth` the one that signs nothing
abbrev pub scheme_of : List ℕ → Scheme ServiceScheme
scheme_of id = if bytes_eq id (codes "noAuth") then NoAuth (record {}) else Brought (Header id)

-- the id of a scheme of the service
abbrev pub id_of : ServiceScheme → List ℕ
id_of (Header id) = id
id_of (Bearer scheme) = codes "http-bearer-auth"
id_of (ApiKey scheme) = codes "http-api-key-auth"

-- the request with the header `authorization` of the bare data or of a bearer token, or with an API key
abbrev pub Signs : ServiceScheme → HttpRequest → Identity → Signed → Type 0
Signs (Header id) request identity signed = SignsByHeader (codes "authorization") identity.content request signed
Signs (Bearer scheme) request identity signed =
    SignsByHeader (codes "authorization") (codes "Bearer " ++ identity.content) request signed
Signs (ApiKey scheme) request identity signed =
    SignsByKey scheme.location scheme.name scheme.prefix identity.content request signed

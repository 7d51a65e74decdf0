-- The protocol of a service that speaks JSON.
use Rattle.std.specs.Prelude.{◌≡◌, ℕ, List, [], ◌++◌, Bool, ◌&&◌, nat_le, nat_lt, Option, Some, None, is_some, codes}
use Rattle.std.specs.Prelude.{if◌then◌else◌}
use Rattle.json_payloads.specs.Forms.{text}
use Rattle.json_payloads.specs.Payloads.{value_in}
use Rattle.client_auth.specs.Responses.{body_bytes}
use Rattle.client_auth.specs.declared.serializer.Serialized.{Serialized}
use Rattle.client_auth.specs.declared.serializer.Serialized.TheVariants as made
use Rattle.http_schemes.specs.Encoding.{encoded}
use Rattle.http_schemes.specs.Signing.{SignsByHeader}
use Rattle.auth_endpoint.specs.declared.scheme.Signed.{Signed}
use Rattle.auth_endpoint.specs.declared.scheme.Signed.TheVariants as signed
use Rattle.smithy_types.specs.declared.fault.FaultKind.TheVariants as fault
use Rattle.smithy_types.specs.declared.fault.Outcome.{Outcome}
use Rattle.smithy_types.specs.declared.fault.Outcome.TheVariants.{Output, Failed}
use Rattle.smithy_types.specs.declared.http.Body.TheVariants.{Bytes}
use Rattle.smithy_types.specs.declared.http.HttpResponse.{HttpResponse}
use Rattle.smithy_types.specs.declared.payload.Payload.{Payload}
use Rattle.client_operations.specs.declared.json.JsonSerializer.{JsonSerializer}
use Rattle.client_operations.specs.declared.json.JsonSerializer.TheVariants.{Post, Get}

-- what came of a header, as what is made of an input
abbrev pub of_signed : Signed → Serialized
of_signed (signed.Request request) = made.Request request
of_signed (signed.Failed text) = made.Failed text

-- the payload is posted to the path, with the header that tells its type
abbrev pub Posted : List ℕ → Payload → Serialized → Type 0
Posted path input serialized =
    (s : Signed)
    × SignsByHeader (codes "content-type") (codes "application/json")
    (record { method = codes "POST"; uri = path; headers = []; body = Bytes input.bytes }) s
    × (serialized ≡ of_signed s)

-- the path that the text ends is asked for
abbrev pub labelled : List ℕ → Option (List ℕ) → Serialized
labelled path (Some label) =
    made.Request (record { method = codes "GET"; uri = path ++ encoded label; headers = []; body = Bytes [] })
labelled path None = made.Failed (codes "no text for the path")

-- the path that the input's text ends is asked for
abbrev pub asked_for : List ℕ → ℕ → Payload → Serialized
asked_for path kind input = labelled path (value_in text kind input)

-- what an input becomes
abbrev pub Requested : JsonSerializer → Payload → Serialized → Type 0
Requested (Post path) input serialized = Posted path.now input serialized
Requested (Get path kind) input serialized = serialized ≡ asked_for path.now kind input

-- the response tells of a success
abbrev pub is_success : ℕ → Bool
is_success status = nat_le 200 status && nat_lt status 300

-- an output of this kind, an error by its status, or a response that the model doesn't know
abbrev pub read_outcome : {E : Type 0} → (ℕ → Option E) → ℕ → HttpResponse → Outcome
read_outcome of_status output response =
    if is_success response.status then Output (record { kind = output; bytes = body_bytes response.body })
    else if is_some (of_status response.status) then Failed
    (record {
      kind = fault.Operation (record { kind = response.status; bytes = body_bytes response.body });
      text = codes "an error of the service";
    })
    else Failed (record { kind = fault.Response; text = codes "unknown status" })

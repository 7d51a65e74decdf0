-- The service's protocol: each operation is posted to a path of its own, with its payload's bytes as the body.
use Rattle.std.specs.Prelude.{ℕ, Bool, ◌||◌, ◌==◌, if◌then◌else◌, List, [], codes}
use Rattle.client_auth.specs.Responses.{body_bytes}
use Rattle.smithy_types.specs.declared.fault.Outcome.{Outcome}
use Rattle.smithy_types.specs.declared.fault.Outcome.TheVariants.{Output, Failed}
use Rattle.smithy_types.specs.declared.fault.FaultKind.TheVariants as fault
use Rattle.smithy_types.specs.declared.http.Body.TheVariants.{Bytes}
use Rattle.smithy_types.specs.declared.http.HttpRequest.{HttpRequest}
use Rattle.smithy_types.specs.declared.http.HttpResponse.{HttpResponse}
use Rattle.smithy_types.specs.declared.payload.Payload.{Payload}

-- the request that posts an input to this path
abbrev pub posted : List ℕ → Payload → HttpRequest
posted path input = record { method = codes "POST"; uri = path; headers = []; body = Bytes input.bytes }

-- a response that has an error of the model
abbrev pub is_modelled : ℕ → Bool
is_modelled status = (status == 404) || (status == 429)

-- an output of this kind, an error of the model, or a response that the model doesn't know
abbrev pub read_outcome : ℕ → HttpResponse → Outcome
read_outcome kind response =
    if response.status == 200 then Output (record { kind = kind; bytes = body_bytes response.body })
    else if is_modelled response.status
    then Failed (record {
      kind = fault.Operation (record { kind = 3; bytes = body_bytes response.body });
      text = codes "refused by the bakery";
    })
    else Failed (record { kind = fault.Response; text = codes "unknown status" })

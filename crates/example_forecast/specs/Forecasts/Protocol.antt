-- The service's protocol: an input is posted to the operation's path, with its payload's bytes as the body.
use Rattle.std.specs.Prelude.{ℕ, Bool, ◌||◌, ◌==◌, if◌then◌else◌, List, [], codes}
use Rattle.smithy_runtime.specs.Responses.{body_bytes}
use Rattle.smithy_runtime.specs.Types.Outcome.{Outcome}
use Rattle.smithy_runtime.specs.Types.Outcome.TheVariants.{Output, Failed}
use Rattle.smithy_runtime.specs.Types.FaultKind.TheVariants as fault
use Rattle.smithy_runtime.specs.Types.Body.TheVariants.{Bytes}
use Rattle.smithy_runtime.specs.Types.HttpRequest.{HttpRequest}
use Rattle.smithy_runtime.specs.Types.HttpResponse.{HttpResponse}
use Rattle.smithy_runtime.specs.Types.Payload.{Payload}

-- the request that posts an input to the operation's path
abbrev pub posted : Payload → HttpRequest
posted input = record { method = codes "POST"; uri = codes "/get-forecast"; headers = []; body = Bytes input.bytes }

-- a response that has an error of the model
abbrev pub is_modelled : ℕ → Bool
is_modelled status = (status == 404) || (status == 503)

-- an output, an error of the model, or a response that the model doesn't know
abbrev pub read_outcome : HttpResponse → Outcome
read_outcome response =
    if response.status == 200 then Output (record { kind = 2; bytes = body_bytes response.body })
    else if is_modelled response.status
    then Failed (record {
      kind = fault.Operation (record { kind = 3; bytes = body_bytes response.body });
      text = codes "refused by the station";
    })
    else Failed (record { kind = fault.Response; text = codes "unknown status" })

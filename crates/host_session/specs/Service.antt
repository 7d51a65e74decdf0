-- A host's service: inputs are requests, and outputs are responses.
use Rattle.std.specs.Prelude.{◌≡◌, ℕ, nat_le, if◌then◌else◌, List, [], ◌++◌, Option, None, Some, IsUtf8, codes, find}
use Rattle.std.specs.Fmt.{decimal}
use Rattle.serde_json.specs.Read.{read}
use Rattle.serde_json.specs.Written.{compact_text}
use Rattle.json_forms.specs.Reading.{◌>>=◌}
use Rattle.json_values.specs.Readings.{request_at}
use Rattle.json_values.specs.Values.{response_data}
use Rattle.client_auth.specs.declared.serializer.Serialized.{Serialized}
use Rattle.client_auth.specs.declared.serializer.Serialized.TheVariants as serialized
use Rattle.smithy_types.specs.declared.fault.FaultKind.TheVariants.{Operation}
use Rattle.smithy_types.specs.declared.fault.Outcome.{Outcome}
use Rattle.smithy_types.specs.declared.fault.Outcome.TheVariants.{Output, Failed}
use Rattle.smithy_types.specs.declared.http.HttpRequest.{HttpRequest}
use Rattle.smithy_types.specs.declared.http.HttpResponse.{HttpResponse}
use Rattle.host_session.specs.Rules.{meets}
use Rattle.host_session.specs.declared.service.deserializer.ErrorRule.{ErrorRule}

-- the bytes are the JSON of this request
abbrev pub IsRequest : List ℕ → HttpRequest → Type 0
IsRequest bytes request = IsUtf8 bytes × ((read bytes >>= request_at) ≡ Some request)

-- an input is the request that its bytes are the JSON of, or it can't be made one
abbrev pub Serializes : List ℕ → Serialized → Type 0
Serializes bytes (serialized.Request request) = IsRequest bytes request
Serializes bytes (serialized.Failed text) =
    (text ≡ codes "no request") × ((request : HttpRequest) → IsRequest bytes request → ⊥)

-- what is said of a response that is an error
abbrev pub status_text : ℕ → List ℕ
status_text status = codes "status " ++ decimal status

-- an error of kind 2: its name
abbrev pub error_outcome : ℕ → List ℕ → Outcome
error_outcome status name = Failed (record {
  kind = Operation (record { kind = 2; bytes = name });
  text = status_text status;
})

-- an output of kind 1: the JSON of the whole response
abbrev pub output_outcome : HttpResponse → Outcome
output_outcome response = Output (record { kind = 1; bytes = compact_text (response_data response) })

-- without a rule: an error without a name from 400 on, and else an output
abbrev pub plain_outcome : HttpResponse → Outcome
plain_outcome response =
    if nat_le 400 response.status then error_outcome response.status [] else output_outcome response

-- by a rule: an error of its name
abbrev pub outcome_by : Option ErrorRule → HttpResponse → Outcome
outcome_by (Some rule) response = error_outcome response.status rule.name
outcome_by None response = plain_outcome response

-- what a response comes to, by the first rule that it meets
abbrev pub read_outcome : List ErrorRule → HttpResponse → Outcome
read_outcome rules response = outcome_by (find (meets response) rules) response

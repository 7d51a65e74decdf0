-- Apply.
use Rattle.std.specs.Prelude.{◌≡◌, Bool, true, false, IsTrue, Option, None, Some}
use Rattle.auth_endpoint.specs.Endpoint.{IsSent, CantSend, refusal_text}
use Rattle.auth_endpoint.specs.declared.endpoint_error.EndpointError.{EndpointError}
use Rattle.auth_endpoint.specs.declared.endpoint_error.EndpointError.TheVariants.{OutOfMemory}
use Rattle.run_grammar.specs.declared.answer.Answer.{Answer}
use Rattle.run_grammar.specs.declared.answer.Answer.TheVariants as answers
use Rattle.smithy_context.specs.StandingLayers.{StandingLayers}
use Rattle.smithy_types.specs.declared.http.HttpRequest.{HttpRequest}
use Rattle.smithy_types.specs.declared.identity.Endpoint.{Endpoint}
use Rattle.client_auth.specs.Reading.{standing_prefix}

-- want of memory is no refusal
abbrev pub is_refusal : EndpointError → Bool
is_refusal OutOfMemory = false
is_refusal _ = true

-- the request at the endpoint, or the name of a refusal that has its cause
abbrev pub AppliesTo : HttpRequest → Endpoint → StandingLayers → Answer → Type 0
AppliesTo request endpoint settings (answers.Request sent) = IsSent request endpoint (standing_prefix settings) sent
AppliesTo request endpoint settings (answers.Failed text) =
    (refusal : EndpointError) × IsTrue (is_refusal refusal)
    × CantSend request endpoint (standing_prefix settings) refusal × (text ≡ refusal_text refusal)
AppliesTo request endpoint settings _ = ⊥

-- without a request or an endpoint it is absent
abbrev pub Applies : Option HttpRequest → Option Endpoint → StandingLayers → Answer → Type 0
Applies (Some request) (Some endpoint) settings a = AppliesTo request endpoint settings a
Applies (Some request) None settings a = a ≡ answers.Absent
Applies None endpoint settings a = a ≡ answers.Absent

-- Serialize.
use Rattle.std.specs.Prelude.{◌≡◌, Option, None, Some}
use Rattle.run_grammar.specs.declared.answer.Answer.{Answer}
use Rattle.run_grammar.specs.declared.answer.Answer.TheVariants as answers
use Rattle.smithy_context.specs.StandingLayers.{StandingLayers}
use Rattle.smithy_types.specs.declared.payload.Payload.{Payload}
use Rattle.client_auth.specs.declared.serializer.Serialized.{Serialized}
use Rattle.client_auth.specs.declared.serializer.Serialized.TheVariants.{Request, Failed}

-- what a serializer made of an input, as it is answered
abbrev pub answer_of : Serialized → Answer
answer_of (Request request) = answers.Request request
answer_of (Failed text) = answers.Failed text

-- the serializer's own answer
abbrev pub Serializes : {Z : Type 0} → (Z → Payload → StandingLayers → Serialized → Type 0) → Z → Option Payload
    → StandingLayers → Answer → Type 0
Serializes says serializer None settings a = a ≡ answers.Absent
Serializes says serializer (Some input) settings a =
    (serialized : Serialized) × says serializer input settings serialized × (a ≡ answer_of serialized)

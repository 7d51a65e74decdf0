-- Stream and Deserialize.
use Rattle.std.specs.Prelude.{◌≡◌, Bool, true, false, Option, None, Some}
use Rattle.run_grammar.specs.declared.answer.Answer.{Answer}
use Rattle.run_grammar.specs.declared.answer.Answer.TheVariants as answers
use Rattle.smithy_context.specs.StandingLayers.{StandingLayers}
use Rattle.smithy_types.specs.declared.fault.Outcome.{Outcome}
use Rattle.smithy_types.specs.declared.http.HttpResponse.{HttpResponse}

-- a response that is read by its head alone has an outcome, and any other doesn't stream
abbrev pub streamed : Option Outcome → Answer
streamed None = answers.NotStreaming
streamed (Some outcome) = answers.Outcome outcome

module _ {D : Type 0} where
  -- a deserializer that may stream is asked, and any other doesn't stream
  abbrev pub Streams : (D → HttpResponse → StandingLayers → Option Outcome → Type 0) → D → Bool → Option HttpResponse
      → StandingLayers → Answer → Type 0
  Streams says deserializer may_stream None settings a = a ≡ answers.Absent
  Streams says deserializer false (Some response) settings a = a ≡ answers.NotStreaming
  Streams says deserializer true (Some response) settings a =
      (outcome : Option Outcome) × says deserializer response settings outcome × (a ≡ streamed outcome)

  -- the deserializer's own outcome
  abbrev pub Deserializes : (D → HttpResponse → StandingLayers → Outcome → Type 0) → D → Option HttpResponse
      → StandingLayers → Answer → Type 0
  Deserializes says deserializer None settings a = a ≡ answers.Absent
  Deserializes says deserializer (Some response) settings a =
      (outcome : Outcome) × says deserializer response settings outcome × (a ≡ answers.Outcome outcome)

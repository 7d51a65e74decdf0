-- What a client answers is determined.
use Rattle.std.specs.Prelude.{◌≡◌, ℕ, Option}
use Rattle.client_auth.specs.declared.serializer.Serialized.{Serialized}
use Rattle.client_components.specs.Meaning.{ClientMeaning}
use Rattle.client_components.specs.Serving.{Answers}
use Rattle.retry_quota.specs.Calls.{Limiters}
use Rattle.retry_quota.specs.Registers.{Registers}
use Rattle.retry_quota.specs.declared.permit.Permit.{Permit}
use Rattle.run_grammar.specs.declared.question.Question.{Question}
use Rattle.smithy_context.specs.StandingLayers.{StandingLayers}
use Rattle.smithy_types.specs.declared.fault.Outcome.{Outcome}
use Rattle.smithy_types.specs.declared.http.HttpResponse.{HttpResponse}
use Rattle.smithy_types.specs.declared.payload.Payload.{Payload}
use Rattle.laws_determined.specs.Steady.Steady.{AnswersAlike, IsSteady}
use Rattle.laws_determined.specs.Auth.Choosing.{HasSleeps, PollsAlike}
use Rattle.laws_determined.specs.Auth.Signing.{SignsAlike}
use Rattle.laws_determined.specs.Retries.Alike.{registers_mean}
use Rattle.laws_determined.specs.Retries.Kinds.{RunsAlike}
use Rattle.laws_determined.specs.Client.Alike.{PartsAlike}

-- what each of a client's own parts answers follows from what it is and what it is handed
pub record ArePlain {T X Q C I A R Z D P L : Type 0} (means : ClientMeaning T X Q C I A R Z D P L) : Type 0 where
  pub outside : IsSteady means.makes
  pub sleeps : HasSleeps means.makes
  pub interceptors : RunsAlike means.chain.runs
  pub resolvers : PollsAlike means.polls
  pub schemes : SignsAlike means.signs
  pub serializers : (serializer : Z) (input : Payload) (settings : StandingLayers) (a b : Serialized)
      → means.serializes serializer input settings a → means.serializes serializer input settings b → a ≡ b
  pub streams : (deserializer : D) (response : HttpResponse) (settings : StandingLayers) (a b : Option Outcome)
      → means.streams deserializer response settings a → means.streams deserializer response settings b → a ≡ b
  pub deserializers : (deserializer : D) (response : HttpResponse) (settings : StandingLayers) (a b : Outcome)
      → means.deserializes deserializer response settings a → means.deserializes deserializer response settings b
      → a ≡ b

-- a client's meaning over registers in place of its quota
abbrev pub with_registers : {T X Q C I A R Z D P L : Type 0} → ClientMeaning T X Q C I A R Z D P L
    → ClientMeaning T X (Registers L) C I A R Z D Permit L
with_registers means = record {
  makes = means.makes;
  sleeps = means.sleeps;
  quota = registers_mean (λ p. p.bucket) (λ p. p.amount) means.quota.limiters;
  says = means.says;
  chain = means.chain;
  names = means.names;
  signs = means.signs;
  polls = means.polls;
  serializes = means.serializes;
  streams = means.streams;
  deserializes = means.deserializes;
}

module _ {T X C I A R Z D P L : Type 0} (bucket amount : P → ℕ) (limiters : Limiters L)
    (means : ClientMeaning T X (Registers L) C I A R Z D P L) where
  -- the client with registers for its quota
  abbrev pub over_registers : ClientMeaning T X (Registers L) C I A R Z D P L
  over_registers = record means { quota = registers_mean bucket amount limiters }

  -- to a question there is one answer, and the parts that are left are alike
  abbrev pub AnswersAreDetermined : Type 0
  AnswersAreDetermined =
      ArePlain means → (question : Question)
      → AnswersAlike (PartsAlike bucket amount) (λ old a new. Answers over_registers old question a new)

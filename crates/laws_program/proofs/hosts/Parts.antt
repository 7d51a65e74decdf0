-- Each part of a host's client is plain.
use Rattle.std.proofs.Common.{◌≡◌, ◌∙◌, sym, ap, List, ℕ}
use Rattle.std.specs.Prelude.{is_some}
use Rattle.cli_serve.specs.Means.{client_means}
use Rattle.client_auth.specs.declared.serializer.Serialized.{Serialized}
use Rattle.client_auth.specs.declared.serializer.Serialized.TheVariants as serialized
use Rattle.client_retries.specs.Meanings.{InterceptorMeans}
use Rattle.host_session.specs.Service.{IsRequest, Serializes}
use Rattle.json_print.proofs.determined.Endings.{same_some}
use Rattle.smithy_context.specs.declared.context.InterceptorContext.{InterceptorContext}
use Rattle.smithy_types.specs.declared.http.HttpRequest.{HttpRequest}
use Rattle.smithy_types.specs.declared.notes.RetryAction.{RetryAction}
use Rattle.laws_determined.proofs.steady.Hosts.{hosts_steady}
use Rattle.laws_determined.specs.Client.Answering.{ArePlain}
use Rattle.laws_determined.specs.Retries.Kinds.{RunsAlike}
use Rattle.laws_program.proofs.runs.Parts.{polls_alike, signs_alike}

one_request : (bytes : List ℕ) (one two : HttpRequest) → IsRequest bytes one → IsRequest bytes two → one ≡ two
one_request bytes one two s t = same_some one two (sym s.1 ∙ t.1)

serialized_alike : (bytes : List ℕ) (a b : Serialized) → Serializes bytes a → Serializes bytes b → a ≡ b
serialized_alike bytes (serialized.Request one) (serialized.Request two) s t = ap serialized.Request (one_request bytes one two s t)
serialized_alike bytes (serialized.Request one) (serialized.Failed text) s t = absurd (t.1 one s)
serialized_alike bytes (serialized.Failed text) (serialized.Request two) s t = absurd (s.1 two t)
serialized_alike bytes (serialized.Failed one) (serialized.Failed two) s t = ap serialized.Failed (s.0 ∙ sym t.0)

pub plain : {C I : Type 0} (says : C → InterceptorContext → RetryAction → RetryAction) (chain : InterceptorMeans I) → RunsAlike chain.runs → ArePlain (client_means says chain)
plain says chain runs = record {
  outside = hosts_steady;
  sleeps = λ old new nanos sleep made. ap is_some made.0;
  interceptors = runs;
  resolvers = polls_alike;
  schemes = signs_alike;
  serializers = λ serializer input settings a b s t. serialized_alike input.bytes a b s t;
  streams = λ deserializer response settings a b s t. s ∙ sym t;
  deserializers = λ deserializer response settings a b s t. s ∙ sym t;
}

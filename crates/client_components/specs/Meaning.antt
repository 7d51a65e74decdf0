-- What the types of a client mean.
use Rattle.std.specs.Prelude.{ℕ, Bool, List, Option}
use Rattle.auth_endpoint.specs.declared.scheme.Signed.{Signed}
use Rattle.client_auth.specs.declared.serializer.Serialized.{Serialized}
use Rattle.client_retries.specs.Meanings.{InterceptorMeans, QuotaMeans}
use Rattle.outside.specs.Calls.{OutsideCall}
use Rattle.outside.specs.declared.answers.IdentityPoll.{IdentityPoll}
use Rattle.smithy_context.specs.StandingLayers.{StandingLayers}
use Rattle.smithy_context.specs.declared.context.InterceptorContext.{InterceptorContext}
use Rattle.smithy_types.specs.declared.fault.Outcome.{Outcome}
use Rattle.smithy_types.specs.declared.http.HttpRequest.{HttpRequest}
use Rattle.smithy_types.specs.declared.http.HttpResponse.{HttpResponse}
use Rattle.smithy_types.specs.declared.identity.Endpoint.{Endpoint}
use Rattle.smithy_types.specs.declared.identity.Identity.{Identity}
use Rattle.smithy_types.specs.declared.notes.RetryAction.{RetryAction}
use Rattle.smithy_types.specs.declared.payload.Payload.{Payload}

-- T is the family that names the types: X an outside, Q a quota with permits P and limiters L, C a classifier, I an
-- interceptor, A a scheme, R a resolver, Z a serializer and D a deserializer
pub record ClientMeaning (T X Q C I A R Z D P L : Type 0) : Type 1 where
  pub makes : X → OutsideCall → X → Type 0
  pub sleeps : X → Bool
  pub quota : QuotaMeans Q P L
  pub says : C → InterceptorContext → RetryAction → RetryAction
  pub chain : InterceptorMeans I
  pub names : A → List ℕ
  pub signs : A → HttpRequest → Identity → Endpoint → Signed → Type 0
  pub polls : R → IdentityPoll → R → Type 0
  pub serializes : Z → Payload → StandingLayers → Serialized → Type 0
  pub streams : D → HttpResponse → StandingLayers → Option Outcome → Type 0
  pub deserializes : D → HttpResponse → StandingLayers → Outcome → Type 0

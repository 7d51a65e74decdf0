-- Each part of a script's client is plain.
use Rattle.std.proofs.Common.{◌≡◌, ◌∙◌, sym, ap, subst, ℕ, inl, inr, List, [], ◌++◌, Option}
use Rattle.std.specs.Prelude.{codes, is_some, unwrap_or}
use Rattle.auth_endpoint.specs.declared.scheme.Signed.{Signed}
use Rattle.auth_endpoint.specs.declared.scheme.Signed.TheVariants as signed
use Rattle.cli_client_runs.specs.Means.{resolver_polls, scheme_signs}
use Rattle.client_scripted.specs.Service.Service.{Signs}
use Rattle.client_scripted.specs.declared.service.scheme.ServiceScheme.{ServiceScheme}
use Rattle.client_scripted.specs.declared.service.scheme.ServiceScheme.TheVariants as services
use Rattle.http_schemes.specs.Encoding.{encoded}
use Rattle.http_schemes.specs.Query.{IsTargetSigned, RefusesTarget, query_with, scheme_text, signed_text}
use Rattle.http_schemes.specs.Signing.{SignsByHeader, SignsByKey, SignsByQuery, prefixed}
use Rattle.http_schemes.specs.declared.api_key.ApiKeyLocation.{ApiKeyLocation}
use Rattle.http_schemes.specs.declared.api_key.ApiKeyLocation.TheVariants.{Header, Query}
use Rattle.http_uri.specs.Uri.{Spells}
use Rattle.http_uri.specs.declared.uri.Uri.{Uri as Target}
use Rattle.identity_cell.specs.declared.no_auth.NoAuthIdentityResolver.{NoAuthIdentityResolver}
use Rattle.client_builder.specs.Own.{OwnRuns}
use Rattle.client_builder.specs.declared.own_interceptor.OwnInterceptor.{OwnInterceptor}
use Rattle.client_builder.specs.declared.own_interceptor.OwnInterceptor.TheVariants.{TokenBucket, StalledStream, ConnectionPoisoning, EnforceContentLength}
use Rattle.client_builder.specs.declared.scheme.IdentityResolver.{IdentityResolver}
use Rattle.client_builder.specs.declared.scheme.IdentityResolver.TheVariants as resolvers
use Rattle.client_builder.specs.declared.scheme.Scheme.{Scheme}
use Rattle.client_builder.specs.declared.scheme.Scheme.TheVariants as schemes
use Rattle.outside.specs.declared.answers.IdentityPoll.{IdentityPoll}
use Rattle.smithy_context.specs.declared.intercept.HookAnswer.{HookAnswer}
use Rattle.smithy_context.specs.declared.intercept.HookView.{HookView}
use Rattle.smithy_types.specs.declared.hook.Hook.{Hook}
use Rattle.smithy_types.specs.declared.http.HttpRequest.{HttpRequest}
use Rattle.smithy_types.specs.declared.identity.Endpoint.{Endpoint}
use Rattle.smithy_types.specs.declared.identity.Identity.{Identity}
use Rattle.client_retries.specs.Meanings.{InterceptorMeans}
use Rattle.smithy_context.specs.declared.context.InterceptorContext.{InterceptorContext}
use Rattle.smithy_types.specs.declared.notes.RetryAction.{RetryAction}
use Rattle.laws_program.specs.Runs.Plain.{ClientsArePlain}
use Rattle.laws_determined.proofs.steady.Scripts.{scripts_steady}
use Rattle.laws_determined.proofs.auth.Applied.{SameParts, no_spelling, same_parts, same_path, same_query}

-- ---- interceptors

pub own_alike : (one after left : OwnInterceptor) (hook : Hook) (view : HookView) (a b : HookAnswer) → OwnRuns one hook view a after → OwnRuns one hook view b left → (a ≡ b) × (after ≡ left)
own_alike (TokenBucket one) after left hook view a b s t = (s.1 ∙ sym t.1, s.0 ∙ sym t.0)
own_alike (StalledStream one) after left hook view a b s t = (s.1 ∙ sym t.1, s.0 ∙ sym t.0)
own_alike (ConnectionPoisoning one) after left hook view a b s t = (s.1 ∙ sym t.1, s.0 ∙ sym t.0)
own_alike (EnforceContentLength one) after left hook view a b s t = (s.1 ∙ sym t.1, s.0 ∙ sym t.0)

-- ---- resolvers

pub polls_alike : (one after left : IdentityResolver NoAuthIdentityResolver) (a b : IdentityPoll) → resolver_polls one a after → resolver_polls one b left → (a ≡ b) × (after ≡ left)
polls_alike (resolvers.NoAuth nobody) after left a b s t = (s.0 ∙ sym t.0, s.1 ∙ sym t.1)
polls_alike (resolvers.Brought resolver) after left a b s t = (s.2.0 ∙ sym t.2.0, s.1 ∙ (ap resolvers.Brought (s.2.1 ∙ sym t.2.1) ∙ sym t.1))

-- ---- schemes

header_alike : (name value : List ℕ) (request : HttpRequest) (a b : Signed) → SignsByHeader name value request a → SignsByHeader name value request b → a ≡ b
header_alike name value request (signed.Request one) (signed.Request two) s t = ap signed.Request (s.0 ∙ sym t.0)
header_alike name value request (signed.Request one) (signed.Failed text) s t = absurd (s.1 t.1)
header_alike name value request (signed.Failed text) (signed.Request two) s t = absurd (t.1 s.1)
header_alike name value request (signed.Failed one) (signed.Failed two) s t = ap signed.Failed (s.0 ∙ sym t.0)

same_signed : (name key : List ℕ) (one two : Target) → SameParts one two → signed_text name key one ≡ signed_text name key two
same_signed name key one two same =
    λ i. scheme_text (same.scheme i) ++ unwrap_or (same.authority i) [] ++ same_path one two same i ++ codes "?" ++ query_with (same_query one two same i) (encoded name) (encoded key)

target_alike : (name key old one two : List ℕ) → IsTargetSigned name key old one → IsTargetSigned name key old two → one ≡ two
target_alike name key old one two s t = s.new_is ∙ (same_signed name key s.uri t.uri (same_parts old s.uri t.uri s.old_spells t.old_spells) ∙ sym t.new_is)

target_refused : (name key old new : List ℕ) → IsTargetSigned name key old new → RefusesTarget name key old → ⊥
target_refused name key old new s (inl t) = no_spelling old s.uri t s.old_spells
target_refused name key old new s (inr (uri, spells, refused)) =
    no_spelling (signed_text name key uri) s.signed refused
    (subst (λ x. Spells x s.signed) (s.new_is ∙ same_signed name key s.uri uri (same_parts old s.uri uri s.old_spells spells)) s.new_spells)

query_alike : (name key : List ℕ) (request : HttpRequest) (a b : Signed) → SignsByQuery name key request a → SignsByQuery name key request b → a ≡ b
query_alike name key request (signed.Request one) (signed.Request two) (target, s, is) (other, t, it) =
    ap signed.Request (is ∙ (ap (λ x. record request { uri = x }) (target_alike name key request.uri target other s t) ∙ sym it))
query_alike name key request (signed.Request one) (signed.Failed text) s t = absurd (target_refused name key request.uri s.0 s.1 t.1)
query_alike name key request (signed.Failed text) (signed.Request two) s t = absurd (target_refused name key request.uri t.0 t.1 s.1)
query_alike name key request (signed.Failed one) (signed.Failed two) s t = ap signed.Failed (s.0 ∙ sym t.0)

key_alike : (location : ApiKeyLocation) (name : List ℕ) (prefix : Option (List ℕ)) (key : List ℕ) (request : HttpRequest) (a b : Signed) → SignsByKey location name prefix key request a → SignsByKey location name prefix key request b → a ≡ b
key_alike Header name prefix key request a b s t = header_alike name (prefixed prefix key) request a b s t
key_alike Query name prefix key request a b s t = query_alike name key request a b s t

service_alike : (scheme : ServiceScheme) (request : HttpRequest) (identity : Identity) (a b : Signed) → Signs scheme request identity a → Signs scheme request identity b → a ≡ b
service_alike (services.Header id) request identity a b s t = header_alike (codes "authorization") identity.content request a b s t
service_alike (services.Bearer scheme) request identity a b s t = header_alike (codes "authorization") (codes "Bearer " ++ identity.content) request a b s t
service_alike (services.ApiKey scheme) request identity a b s t = key_alike scheme.location scheme.name scheme.prefix identity.content request a b s t

pub signs_alike : (scheme : Scheme ServiceScheme) (request : HttpRequest) (identity : Identity) (endpoint : Endpoint) (a b : Signed) → scheme_signs scheme request identity endpoint a → scheme_signs scheme request identity endpoint b → a ≡ b
signs_alike (schemes.NoAuth scheme) request identity endpoint a b s t = s ∙ sym t
signs_alike (schemes.Brought scheme) request identity endpoint a b s t = service_alike scheme request identity a b s t

pub plain : {C I : Type 0} (says : C → InterceptorContext → RetryAction → RetryAction) (chain : InterceptorMeans I) → ClientsArePlain says chain
plain says chain runs = record {
  outside = scripts_steady;
  sleeps = λ old new nanos sleep made. ap is_some made.0;
  interceptors = runs;
  resolvers = polls_alike;
  schemes = signs_alike;
  serializers = λ serializer input settings a b s t. s ∙ sym t;
  streams = λ deserializer response settings a b s t. s ∙ sym t;
  deserializers = λ deserializer response settings a b s t. s ∙ sym t;
}

-- What the parts of a script's client mean.
use Rattle.std.specs.Prelude.{◌≡◌, ℕ, true, List, [], None, codes}
use Rattle.auth_endpoint.specs.declared.scheme.Signed.{Signed}
use Rattle.auth_endpoint.specs.declared.scheme.Signed.TheVariants as signed
use Rattle.client_auth.specs.declared.serializer.Serialized.TheVariants as serialized
use Rattle.client_scripted.specs.Service.Service.{Signs, id_of, posted, read_outcome}
use Rattle.client_scripted.specs.declared.service.scheme.ServiceScheme.{ServiceScheme}
use Rattle.client_components.specs.Serving.{Served}
use Rattle.identity_cell.specs.declared.no_auth.NoAuthIdentityResolver.{NoAuthIdentityResolver}
use Rattle.client_builder.specs.declared.scheme.IdentityResolver.{IdentityResolver}
use Rattle.client_builder.specs.declared.scheme.IdentityResolver.TheVariants as resolvers
use Rattle.client_builder.specs.declared.scheme.Scheme.{Scheme}
use Rattle.client_builder.specs.declared.scheme.Scheme.TheVariants as schemes
use Rattle.outside.specs.declared.answers.IdentityPoll.{IdentityPoll}
use Rattle.outside.specs.declared.answers.IdentityPoll.TheVariants.{Ready}
use Rattle.rate_limit.specs.Pace.{Pace, pace_from}
use Rattle.rate_limit.specs.Steps.{after_acquire, after_update, reply_to}
use Rattle.client_retries.specs.Meanings.{InterceptorMeans, QuotaMeans}
use Rattle.retry_quota.specs.Calls.{limiters_by}
use Rattle.retry_quota.specs.Registers.{Registers, meaning_of}
use Rattle.retry_quota.specs.declared.permit.Permit.{Permit}
use Rattle.run_grammar.specs.declared.answer.Entry.{Entry}
use Rattle.outside_scripted.specs.Makes.{Makes}
use Rattle.outside_scripted.specs.declared.scripted_outside.ScriptedOutside.{ScriptedOutside}
use Rattle.client_scripted.specs.Clients.{ServiceMeaning, ServiceWorld}
use Rattle.smithy_context.specs.declared.context.InterceptorContext.{InterceptorContext}
use Rattle.smithy_types.specs.declared.http.HttpRequest.{HttpRequest}
use Rattle.smithy_types.specs.declared.identity.Endpoint.{Endpoint}
use Rattle.smithy_types.specs.declared.identity.Identity.{Identity}
use Rattle.smithy_types.specs.declared.notes.RetryAction.{RetryAction}

-- ---- its parts

-- the quota's registers
abbrev pub quota_means : QuotaMeans (Registers Pace) Permit Pace
quota_means = record {
  meaning = meaning_of;
  permit_bucket = λ p. p.bucket;
  permit_amount = λ p. p.amount;
  limiters = limiters_by pace_from after_acquire reply_to after_update;
}

-- what a scheme is called: the one that signs nothing, or one of the service
abbrev pub scheme_names : Scheme ServiceScheme → List ℕ
scheme_names = elim [ schemes.NoAuth scheme ↦ codes "noAuth" | schemes.Brought scheme ↦ id_of scheme ]

-- what it makes of a request: the one that signs nothing leaves it, one of the service signs it as its own rule says
abbrev pub scheme_signs : Scheme ServiceScheme → HttpRequest → Identity → Endpoint → Signed → Type 0
scheme_signs = elim [
  | schemes.NoAuth scheme ↦ (λ request identity endpoint s. s ≡ signed.Request request)
  | schemes.Brought scheme ↦ (λ request identity endpoint s. Signs scheme request identity s)
]

-- a resolver of the program would be nobody's too
abbrev pub resolver_polls : IdentityResolver NoAuthIdentityResolver → IdentityPoll
    → IdentityResolver NoAuthIdentityResolver → Type 0
resolver_polls = λ old answer new. elim old [
  | resolvers.NoAuth nobody ↦ (answer ≡ Ready (record { content = []; expiration = None }))
      × (new ≡ resolvers.NoAuth nobody)
  | resolvers.Brought resolver ↦ (after : NoAuthIdentityResolver) × (new ≡ resolvers.Brought after)
      × ((answer ≡ Ready (record { content = []; expiration = None })) × (after ≡ resolver))
]

-- ---- a client

module _ {C I : Type 0} where
  -- the meaning of a client, by what its classifiers say and what its interceptors do
  abbrev pub client_means : (C → InterceptorContext → RetryAction → RetryAction) → InterceptorMeans I
      → ServiceMeaning ScriptedOutside (Registers Pace) C I Permit Pace
  client_means says chain = record {
    makes = Makes;
    sleeps = λ outside. true;
    quota = quota_means;
    says = says;
    chain = chain;
    names = scheme_names;
    signs = scheme_signs;
    polls = resolver_polls;
    serializes = λ serializer input settings s. s ≡ serialized.Request (posted input);
    streams = λ deserializer response settings outcome. outcome ≡ None;
    deserializes = λ deserializer response settings outcome. outcome ≡ read_outcome response;
  }

  -- each entry is answered from the client's parts
  abbrev pub ServedBy : (C → InterceptorContext → RetryAction → RetryAction) → InterceptorMeans I → ServiceWorld C I
      → List Entry → ServiceWorld C I → Type 0
  ServedBy says chain old log new = Served (client_means says chain) old.parts log new.parts

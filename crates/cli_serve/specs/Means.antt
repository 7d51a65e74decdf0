-- What a host's client means.
use Rattle.std.specs.Prelude.{◌≡◌, true, [], None}
use Rattle.client_components.specs.Meaning.{ClientMeaning}
use Rattle.client_components.specs.Resting.{Ends}
use Rattle.client_components.specs.Serving.{Served}
use Rattle.client_builder.specs.declared.scheme.IdentityResolver.{IdentityResolver}
use Rattle.client_builder.specs.declared.scheme.Scheme.{Scheme}
use Rattle.client_retries.specs.Meanings.{InterceptorMeans}
use Rattle.client_scripted.specs.declared.service.scheme.ServiceScheme.{ServiceScheme}
use Rattle.cli_client_runs.specs.Means.{quota_means, resolver_polls, scheme_names, scheme_signs}
use Rattle.host_session.specs.Classifiers.{hosted_says}
use Rattle.host_session.specs.Meaning.{HostedMeaning}
use Rattle.host_session.specs.Service.{Serializes, read_outcome}
use Rattle.host_session.specs.declared.service.classifier.HostedClassifier.{HostedClassifier}
use Rattle.host_session.specs.declared.service.deserializer.HostedDeserializer.{HostedDeserializer}
use Rattle.host_session.specs.declared.service.serializer.HostedSerializer.{HostedSerializer}
use Rattle.identity_cell.specs.declared.no_auth.NoAuthIdentityResolver.{NoAuthIdentityResolver}
use Rattle.outside_hosted.specs.Makes.{Makes}
use Rattle.outside_hosted.specs.declared.hosted_outside.HostedOutside.{HostedOutside}
use Rattle.rate_limit.specs.Pace.{Pace}
use Rattle.retry_quota.specs.Registers.{Registers}
use Rattle.retry_quota.specs.declared.permit.Permit.{Permit}
use Rattle.smithy_context.specs.declared.context.InterceptorContext.{InterceptorContext}
use Rattle.smithy_types.specs.declared.notes.RetryAction.{RetryAction}
use Rattle.cli_serve.specs.Opening.{ServedClient, ServedTypes}

module _ {C I : Type 0} (says : C → InterceptorContext → RetryAction → RetryAction) (chain : InterceptorMeans I) where
  -- the meaning of the client's parts, by what its own classifiers say and what its interceptors do
  abbrev pub client_means : ClientMeaning (ServedTypes C I) HostedOutside (Registers Pace) (HostedClassifier C) I
      (Scheme ServiceScheme) (IdentityResolver NoAuthIdentityResolver) HostedSerializer HostedDeserializer Permit Pace
  client_means = record {
    makes = Makes;
    sleeps = λ outside. true;
    quota = quota_means;
    says = hosted_says says;
    chain = chain;
    names = scheme_names;
    signs = scheme_signs;
    polls = resolver_polls;
    serializes = λ serializer input settings s. Serializes input.bytes s;
    streams = λ deserializer response settings outcome. outcome ≡ None;
    deserializes = λ deserializer response settings outcome. outcome ≡ read_outcome deserializer.rules response;
  }

  -- the meaning of the client: each entry of its log is answered from its parts, and a host changes its outside and its
  -- quota alone
  abbrev pub hosted_means : HostedMeaning (ServedClient C I)
  hosted_means = record {
    calls = λ c. c.components.log;
    relates = λ old log new. Served client_means old.components.parts log new.components.parts;
    parks = λ c. c.components.parts.outside.is_parked;
    outside = λ c. c.components.parts.outside;
    with_outside = λ outside c. record c {
      components = record c.components { parts = record c.components.parts { outside = outside } };
    };
    quota = λ c. c.components.parts.quota;
    with_quota = λ quota c. record c {
      components = record c.components { parts = record c.components.parts { quota = quota } };
    };
    emptied = λ c. record c { components = record c.components { log = [] } };
    rests = λ old new.
        Ends Makes old.components.parts new.components.parts × (new.components.log ≡ old.components.log);
  }

-- The retry classifiers of a host's client.
use Rattle.std.specs.Prelude.{◌≡◌, List, [], ◌++◌, map, Option, Vec, option_to_list}
use Rattle.std.specs.declared.alloc.Global.{Global}
use Rattle.client_components.specs.declared.parts.Parts.{Parts}
use Rattle.client_components.specs.declared.world.RuntimeComponents.{RuntimeComponents}
use Rattle.smithy_context.specs.declared.context.InterceptorContext.{InterceptorContext}
use Rattle.smithy_types.specs.declared.notes.RetryAction.{RetryAction}
use Rattle.host_session.specs.RetryAfter.{retry_after_in, with_retry_after}
use Rattle.host_session.specs.declared.service.classifier.HostedClassifier.{HostedClassifier}
use Rattle.host_session.specs.declared.service.classifier.HostedClassifier.TheVariants.{Own, RetryAfter}
use Rattle.host_session.specs.declared.service.retry_after.RetryAfterClassifier.{RetryAfterClassifier}

-- what they say, by what a client's own say: the one for delays has a retry wait for what the response asks for
abbrev pub hosted_says : {C : Type 0} → (C → InterceptorContext → RetryAction → RetryAction) → HostedClassifier C
    → InterceptorContext → RetryAction → RetryAction
hosted_says says (Own x) = says x
hosted_says says (RetryAfter x) = λ context verdict. with_retry_after (retry_after_in x context.view.response) verdict

-- a client's own classifiers, and behind them the one for delays, if there is one
abbrev pub classifiers_with : {C : Type 0} → List C → Option RetryAfterClassifier → List (HostedClassifier C)
classifiers_with own retry_after = map Own own ++ map RetryAfter (option_to_list retry_after)

module _ {T U X Q C I A R Z D P L : Type 0} where
  -- a client's parts with these classifiers in place of its own
  abbrev pub with_classifiers : Vec (HostedClassifier C) Global → Parts T X Q C I A R Z D P L
      → Parts U X Q (HostedClassifier C) I A R Z D P L
  with_classifiers classifiers p = record {
    given = record {
      client = p.given.client;
      sleep_impl = p.given.sleep_impl;
      time_source = p.given.time_source;
      classifiers = classifiers;
      options = p.given.options;
      schemes = p.given.schemes;
      endpoint = p.given.endpoint;
      serializer = p.given.serializer;
      deserializer = p.given.deserializer;
      may_stream = p.given.may_stream;
    };
    sleeps = p.sleeps;
    call = p.call;
    strategy = p.strategy;
    interceptors = p.interceptors;
    identities = p.identities;
    outside = p.outside;
    quota = p.quota;
  }

  -- A client before anything was asked of it, with the classifier for delays behind its own, if there is one.
  pub record AddsRetryAfter (retry_after : Option RetryAfterClassifier) (old : RuntimeComponents T X Q C I A R Z D P L)
      (new : RuntimeComponents U X Q (HostedClassifier C) I A R Z D P L) : Type 0 where
    pub classifiers : new.parts.given.classifiers.items ≡ classifiers_with old.parts.given.classifiers.items retry_after
    pub others : new.parts ≡ with_classifiers new.parts.given.classifiers old.parts
    pub log : new.log ≡ []

use Rattle.retry_quota.specs.Calls.{limiters_by}
use Rattle.client_components.proofs.PaidLemmas.{all_paid}
use Rattle.client_components.proofs.laws.further_attempts_are_paid.Goals as goal

pub returns : goal.returns
returns g c = λ old new l h. all_paid (record { makes = g.T.Outside.Outside.makes; sleeps = g.T.Outside.Timers.sleeps; quota = record { meaning = g.T.Quota.Quota.meaning; permit_bucket = g.T.Quota.Quota.permit_bucket; permit_amount = g.T.Quota.Quota.permit_amount; limiters = limiters_by g.T.Quota.Limiter.Limiter.at g.T.Quota.Limiter.Limiter.after_acquire g.T.Quota.Limiter.Limiter.reply_to g.T.Quota.Limiter.Limiter.after_update }; says = g.T.Classifier.ClassifyRetry.says; chain = record { names = g.T.Interceptor.Intercept.names; hooks = g.T.Interceptor.Intercept.hooks; runs = g.T.Interceptor.Intercept.runs; with_bucket = g.T.Interceptor.TakeOffer.with_bucket; with_verdict = g.T.Interceptor.TakeOffer.with_verdict }; names = g.T.Scheme.AuthScheme.names; signs = g.T.Scheme.AuthScheme.signs; polls = g.T.Resolver.ResolveIdentity.polls; serializes = g.T.Serializer.SerializeRequest.serializes; streams = g.T.Deserializer.DeserializeResponse.streams; deserializes = g.T.Deserializer.DeserializeResponse.deserializes }) old new l h

use Rattle.retry_quota.specs.Calls.{limiters_by}
use Rattle.run_grammar.specs.Entry.{entry}
use Rattle.smithy_types.proofs.ChainLemmas.{chained_more}
use Rattle.client_components.specs.Serving.{Serves}
use Rattle.client_components.proofs.Fitting.{answers_fit}
use Rattle.client_components.proofs.world.RuntimeComponentsWorld.ask.Goals as goal

pub returns-in-Ok-clause-fitting : goal.returns-in-Ok-clause-fitting
returns-in-Ok-clause-fitting g c =
    answers_fit (record { makes = g.T.Outside.Outside.makes; sleeps = g.T.Outside.Timers.sleeps; quota = record { meaning = g.T.Quota.Quota.meaning; permit_bucket = g.T.Quota.Quota.permit_bucket; permit_amount = g.T.Quota.Quota.permit_amount; limiters = limiters_by g.T.Quota.Limiter.Limiter.at g.T.Quota.Limiter.Limiter.after_acquire g.T.Quota.Limiter.Limiter.reply_to g.T.Quota.Limiter.Limiter.after_update }; says = g.T.Classifier.ClassifyRetry.says; chain = record { names = g.T.Interceptor.Intercept.names; hooks = g.T.Interceptor.Intercept.hooks; runs = g.T.Interceptor.Intercept.runs; with_bucket = g.T.Interceptor.TakeOffer.with_bucket; with_verdict = g.T.Interceptor.TakeOffer.with_verdict }; names = g.T.Scheme.AuthScheme.names; signs = g.T.Scheme.AuthScheme.signs; polls = g.T.Resolver.ResolveIdentity.polls; serializes = g.T.Serializer.SerializeRequest.serializes; streams = g.T.Deserializer.DeserializeResponse.streams; deserializes = g.T.Deserializer.DeserializeResponse.deserializes })
    c.args.self.now.parts c.answer.new.self c.args.question c.in-Ok.answer (rw c.in-Ok.ensures.0 at c.answer.ensures.ok)

pub returns-in-Ok-clause-related : goal.returns-in-Ok-clause-related
returns-in-Ok-clause-related g c = λ w l h.
    (chained_more (Serves (record { makes = g.T.Outside.Outside.makes; sleeps = g.T.Outside.Timers.sleeps; quota = record { meaning = g.T.Quota.Quota.meaning; permit_bucket = g.T.Quota.Quota.permit_bucket; permit_amount = g.T.Quota.Quota.permit_amount; limiters = limiters_by g.T.Quota.Limiter.Limiter.at g.T.Quota.Limiter.Limiter.after_acquire g.T.Quota.Limiter.Limiter.reply_to g.T.Quota.Limiter.Limiter.after_update }; says = g.T.Classifier.ClassifyRetry.says; chain = record { names = g.T.Interceptor.Intercept.names; hooks = g.T.Interceptor.Intercept.hooks; runs = g.T.Interceptor.Intercept.runs; with_bucket = g.T.Interceptor.TakeOffer.with_bucket; with_verdict = g.T.Interceptor.TakeOffer.with_verdict }; names = g.T.Scheme.AuthScheme.names; signs = g.T.Scheme.AuthScheme.signs; polls = g.T.Resolver.ResolveIdentity.polls; serializes = g.T.Serializer.SerializeRequest.serializes; streams = g.T.Deserializer.DeserializeResponse.streams; deserializes = g.T.Deserializer.DeserializeResponse.deserializes }))
    w.parts c.args.self.now.parts c.answer.new.self l (entry c.args.question c.in-Ok.answer) h (rw c.in-Ok.ensures.0 at c.answer.ensures.ok))

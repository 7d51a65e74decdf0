-- Each answer fits its question.
use Rattle.std.proofs.Common.{◌≡◌, refl, ap, ◌∙◌, ℕ, Bool, true, false, ◌&&◌, not, if◌then◌else◌, List, [], Option, None, Some, inl, inr}
use Rattle.client_call.proofs.Fitting.{starts_fit, waits_fit, loaded_fits, transmits_fit, reads_fit}
use Rattle.client_auth.specs.Applying as applying
use Rattle.client_auth.specs.Caching.{Answered, Continues, GoesOnCached}
use Rattle.client_auth.specs.Choosing as choosing
use Rattle.client_auth.specs.Deserializing as deserializing
use Rattle.client_auth.specs.Identities.{ChoosesBy, has_cache}
use Rattle.client_auth.specs.Serializing as serializing
use Rattle.client_auth.specs.Signing as signing
use Rattle.client_auth.specs.declared.cached.Opened.{Opened}
use Rattle.client_auth.specs.declared.cached.Opened.TheVariants as opened
use Rattle.client_auth.specs.declared.choose.OpenLoad.{OpenLoad}
use Rattle.client_auth.specs.declared.choose.Picked.{Picked}
use Rattle.client_auth.specs.declared.choose.Picked.TheVariants.{Scheme, Refused}
use Rattle.client_auth.specs.declared.identities.CachedIdentities.{CachedIdentities}
use Rattle.client_auth.specs.declared.identities.Identities.{Identities}
use Rattle.client_auth.specs.declared.serializer.Serialized.{Serialized}
use Rattle.client_auth.specs.declared.serializer.Serialized.TheVariants as serialized
use Rattle.client_auth.specs.declared.sources.RegisteredSource.{RegisteredSource}
use Rattle.auth_endpoint.specs.declared.scheme.Signed.{Signed}
use Rattle.auth_endpoint.specs.declared.scheme.Signed.TheVariants as signed
use Rattle.identity_cell.specs.LazyCache.{Cache}
use Rattle.identity_cell.specs.declared.identity_load.IdentityLoad.{IdentityLoad}
use Rattle.outside.specs.Calls.{OutsideCall}
use Rattle.outside.specs.declared.answers.IdentityPoll.{IdentityPoll}
use Rattle.outside.specs.declared.answers.IdentityPoll.TheVariants as polled
use Rattle.client_retries.specs.Configuring.{no_sleep, no_time_source}
use Rattle.client_retries.specs.Deciding.{DecidesSo, IsDecided}
use Rattle.client_retries.specs.Initially.{BeginsSo, Begun}
use Rattle.client_retries.specs.Meanings.{QuotaMeans}
use Rattle.client_retries.specs.declared.strategy.RetryStrategy.{RetryStrategy}
use Rattle.client_retries.specs.declared.strategy.RetryStrategy.TheVariants.{Never, Standard}
use Rattle.retry_policy.specs.declared.standard.StandardRetryStrategy.{StandardRetryStrategy}
use Rattle.retry_quota.specs.Calls.{Limiters}
use Rattle.retry_quota.specs.Meaning.{Meaning}
use Rattle.run_grammar.specs.Fits.{fits, fits_configure}
use Rattle.run_grammar.specs.Question.{kind_of_question}
use Rattle.run_grammar.specs.declared.answer.Answer.{Answer}
use Rattle.run_grammar.specs.declared.answer.Answer.TheVariants as answers
use Rattle.run_grammar.specs.declared.kind.Abandonable.{Abandonable}
use Rattle.run_grammar.specs.declared.kind.Abandonable.TheVariants as abandoned
use Rattle.run_grammar.specs.declared.kind.ConfigureStage.{ConfigureStage}
use Rattle.run_grammar.specs.declared.kind.ConfigureStage.TheVariants.{Client, Operation, Final}
use Rattle.run_grammar.specs.declared.kind.Kind.{Kind}
use Rattle.run_grammar.specs.declared.kind.Kind.TheVariants as kinds
use Rattle.run_grammar.specs.declared.question.Question.{Question}
use Rattle.run_grammar.specs.declared.question.Question.TheVariants as questions
use Rattle.smithy_context.specs.StandingLayers.{StandingLayers}
use Rattle.smithy_context.specs.declared.context.InterceptorContext.{InterceptorContext}
use Rattle.smithy_types.specs.declared.fault.Outcome.{Outcome}
use Rattle.smithy_types.specs.declared.http.HttpRequest.{HttpRequest}
use Rattle.smithy_types.specs.declared.http.HttpResponse.{HttpResponse}
use Rattle.smithy_types.specs.declared.identity.Endpoint.{Endpoint}
use Rattle.smithy_types.specs.declared.identity.Identity.{Identity}
use Rattle.smithy_types.specs.declared.notes.RetryAction.{RetryAction}
use Rattle.smithy_types.specs.declared.payload.Payload.{Payload}
use Rattle.client_components.specs.Calling.{Abandons}
use Rattle.client_components.specs.Retrying.{Configures}
use Rattle.client_components.specs.Meaning.{ClientMeaning}
use Rattle.client_components.specs.Serving.{Answers}
use Rattle.client_components.specs.declared.parts.Parts.{Parts}

-- an answer that is another one fits as that one does
same_fits : (k : Kind) (a b : Answer) → a ≡ b → fits k b ≡ true → fits k a ≡ true
same_fits k a b e h = ap (λ x. fits k x) e ∙ h

finished_fits : (t u : Bool) → fits_configure (if t then answers.Failed no_time_source else if u then answers.Failed no_sleep else answers.Layer []) ≡ true
finished_fits true u = refl
finished_fits false true = refl
finished_fits false false = refl

serialized_fits : (s : Serialized) → fits kinds.Serialize (serializing.answer_of s) ≡ true
unfolding fits
serialized_fits (serialized.Request request) = refl
serialized_fits (serialized.Failed text) = refl

serializes_fit : {Z : Type 0} → (says : Z → Payload → StandingLayers → Serialized → Type 0) (z : Z) (input : Option Payload) (settings : StandingLayers) (a : Answer)
    → serializing.Serializes says z input settings a → fits kinds.Serialize a ≡ true
unfolding fits
serializes_fit says z None settings a h = same_fits kinds.Serialize a answers.Absent h refl
serializes_fit says z (Some input) settings a h = same_fits kinds.Serialize a _ h.2 (serialized_fits h.0)

begins_fit : {L : Type 0} → (means : Limiters L) (m n : Meaning L) (settings : StandingLayers) (now : Option ℕ) (a : Answer) → BeginsSo means m settings now a n → fits kinds.Initial a ≡ true
unfolding fits
begins_fit means m n settings now answers.Absent h = refl
begins_fit means m n settings now answers.Go h = refl
begins_fit means m n settings now answers.No h = refl
begins_fit means m n settings now (answers.Delay nanos) h = refl
begins_fit means m n settings now _ h = absurd h

begun_fits : {Q P L : Type 0} → (means : QuotaMeans Q P L) (time_source : Bool) (settings : StandingLayers) (old : RetryStrategy P) (q : Q) (a : Answer) (new : RetryStrategy P) (calls : List OutsideCall) (after : Q)
    → Begun means time_source settings old q a new calls after → fits kinds.Initial a ≡ true
unfolding fits
begun_fits means time_source settings (Never never) q a new calls after h = same_fits kinds.Initial a answers.Go h.0 refl
begun_fits means time_source settings (Standard standard) q a new calls after h = begins_fit means.limiters _ _ settings h.1.now a h.1.begins

decides_fit : {Q P L : Type 0} → (means : QuotaMeans Q P L) (verdict : RetryAction) (now : Option ℕ) (word : ℕ) (c : InterceptorContext) (old : StandardRetryStrategy P) (q : Q) (a : Answer) (new : StandardRetryStrategy P) (after : Q)
    → DecidesSo means verdict now word c old q a new after → fits kinds.Decide a ≡ true
unfolding fits
decides_fit means verdict now word c old q answers.Absent new after h = refl
decides_fit means verdict now word c old q (answers.Decided choice noted) new after h = refl
decides_fit means verdict now word c old q _ new after h = absurd h

decided_fits : {Q P L : Type 0} → (means : QuotaMeans Q P L) (verdict : RetryAction) (time_source : Bool) (c : InterceptorContext) (old : RetryStrategy P) (q : Q) (a : Answer) (new : RetryStrategy P) (calls : List OutsideCall) (after : Q)
    → IsDecided means verdict time_source c old q a new calls after → fits kinds.Decide a ≡ true
unfolding fits
decided_fits means verdict time_source c (Never never) q a new calls after h = same_fits kinds.Decide a _ h.0 refl
decided_fits means verdict time_source c (Standard standard) q a new calls after h = decides_fit means verdict h.2.now h.2.word c standard q a h.0 after h.2.decides

answered_fits : (id : List ℕ) (endpoint : Option Endpoint) (p : Option IdentityPoll) → fits kinds.Choose (choosing.answer_with id endpoint p) ≡ true
unfolding fits
answered_fits id endpoint None = refl
answered_fits id endpoint (Some polled.Pending) = refl
answered_fits id endpoint (Some (polled.Failed text)) = refl
answered_fits id endpoint (Some (polled.Ready identity)) = refl

goes_on_fits : {R : Type 0} → (polls : R → IdentityPoll → R → Type 0) (endpoint : Option Endpoint) (picked : Picked) (old : List (RegisteredSource R)) (load : OpenLoad) (a : Answer) (new : List (RegisteredSource R)) (load_after : OpenLoad) (calls : List OutsideCall)
    → choosing.GoesOn polls endpoint picked old load a new load_after calls → fits kinds.Choose a ≡ true
unfolding fits
goes_on_fits polls endpoint (Scheme id) old load a new load_after calls h = same_fits kinds.Choose a _ h.answer_is (answered_fits id endpoint h.polled)
goes_on_fits polls endpoint (Refused text) old load a new load_after calls h = same_fits kinds.Choose a (answers.Failed text) h.0 refl

continues_fit : (id : List ℕ) (endpoint : Option Endpoint) (p : Option IdentityPoll) (cache : Cache) (open_load : Option IdentityLoad) (load : OpenLoad) (a : Answer) (new : Cache) (open_after : Option IdentityLoad) (load_after : OpenLoad) (calls : List OutsideCall)
    → Continues id endpoint p cache open_load load a new open_after load_after calls → fits kinds.Choose a ≡ true
unfolding fits
continues_fit id endpoint None cache open_load load a new open_after load_after calls h = same_fits kinds.Choose a answers.Absent h.0 refl
continues_fit id endpoint (Some polled.Pending) cache open_load load a new open_after load_after calls h =
    elim h [ inl x ↦ same_fits kinds.Choose a answers.Pending x.0 refl | inr x ↦ same_fits kinds.Choose a _ x.answer_is refl ]
continues_fit id endpoint (Some (polled.Failed text)) cache open_load load a new open_after load_after calls h = same_fits kinds.Choose a (answers.Failed text) h.0 refl
continues_fit id endpoint (Some (polled.Ready identity)) cache open_load load a new open_after load_after calls h = same_fits kinds.Choose a _ h.1 refl

answered_cached_fits : {R : Type 0} → (polls : R → IdentityPoll → R → Type 0) (id : List ℕ) (endpoint : Option Endpoint) (found : Opened) (old : List (RegisteredSource R)) (cache : Cache) (open_load : Option IdentityLoad) (load : OpenLoad) (a : Answer)
    (new : List (RegisteredSource R)) (cache_after : Cache) (open_after : Option IdentityLoad) (load_after : OpenLoad) (calls : List OutsideCall)
    → Answered polls id endpoint found old cache open_load load a new cache_after open_after load_after calls → fits kinds.Choose a ≡ true
unfolding fits
answered_cached_fits polls id endpoint (opened.Hit identity) old cache open_load load a new cache_after open_after load_after calls h = same_fits kinds.Choose a _ h.0 refl
answered_cached_fits polls id endpoint opened.NotYet old cache open_load load a new cache_after open_after load_after calls h = same_fits kinds.Choose a answers.Pending h.0 refl
answered_cached_fits polls id endpoint opened.Load old cache open_load load a new cache_after open_after load_after calls h =
    continues_fit id endpoint h.answer cache open_load h.load_asked a cache_after open_after load_after h.going_on h.continues

goes_on_cached_fits : {R : Type 0} → (polls : R → IdentityPoll → R → Type 0) (time_source : Bool) (settings : StandingLayers) (endpoint : Option Endpoint) (picked : Picked) (old : List (RegisteredSource R)) (cache : Cache) (open_load : Option IdentityLoad) (load : OpenLoad) (a : Answer)
    (new : List (RegisteredSource R)) (cache_after : Cache) (open_after : Option IdentityLoad) (load_after : OpenLoad) (calls : List OutsideCall)
    → GoesOnCached polls time_source settings endpoint picked old cache open_load load a new cache_after open_after load_after calls → fits kinds.Choose a ≡ true
unfolding fits
goes_on_cached_fits polls time_source settings endpoint (Scheme id) old cache open_load load a new cache_after open_after load_after calls h =
    answered_cached_fits polls id endpoint h.found old h.cache_looked h.open_looked load a new cache_after open_after load_after h.answering h.answered
goes_on_cached_fits polls time_source settings endpoint (Refused text) old cache open_load load a new cache_after open_after load_after calls h = same_fits kinds.Choose a (answers.Failed text) h.0 refl

chooses_fit : {A R : Type 0} → (names : A → List ℕ) (polls : R → IdentityPoll → R → Type 0) (options : List (List ℕ)) (schemes : List A) (endpoint : Endpoint) (time_source : Bool) (settings : StandingLayers)
    (cached : Option CachedIdentities) (old : Identities R) (a : Answer) (new : Identities R) (calls : List OutsideCall)
    → ChoosesBy names polls options schemes endpoint time_source settings cached old a new calls → fits kinds.Choose a ≡ true
chooses_fit names polls options schemes endpoint time_source settings None old a new calls h =
    goes_on_fits polls _ h.0.picked old.sources.items old.load a new.sources.items new.load calls h.0.goes_on
chooses_fit names polls options schemes endpoint time_source settings (Some cached) old a new calls h =
    goes_on_cached_fits polls time_source settings _ h.1.picked old.sources.items cached.cache cached.current old.load a new.sources.items h.0.cache h.0.current new.load calls h.1.goes_on

applies_to_fits : (request : HttpRequest) (endpoint : Endpoint) (settings : StandingLayers) (a : Answer) → applying.AppliesTo request endpoint settings a → fits kinds.Apply a ≡ true
unfolding fits
applies_to_fits request endpoint settings (answers.Request sent) h = refl
applies_to_fits request endpoint settings (answers.Failed text) h = refl
applies_to_fits request endpoint settings _ h = absurd h

applies_fit : (request : Option HttpRequest) (endpoint : Option Endpoint) (settings : StandingLayers) (a : Answer) → applying.Applies request endpoint settings a → fits kinds.Apply a ≡ true
unfolding fits
applies_fit (Some request) (Some endpoint) settings a h = applies_to_fits request endpoint settings a h
applies_fit (Some request) None settings a h = same_fits kinds.Apply a answers.Absent h refl
applies_fit None endpoint settings a h = same_fits kinds.Apply a answers.Absent h refl

signed_fits : (s : Signed) → fits kinds.Sign (signing.answer_of s) ≡ true
unfolding fits
signed_fits (signed.Request request) = refl
signed_fits (signed.Failed text) = refl

module _ {A : Type 0} (names : A → List ℕ) (signs : A → HttpRequest → Identity → Endpoint → Signed → Type 0) where
  signs_at_fits : (schemes : List A) (place : Option ℕ) (request : HttpRequest) (identity : Identity) (endpoint : Endpoint) (a : Answer) → signing.SignsAt names signs schemes place request identity endpoint a → fits kinds.Sign a ≡ true
  unfolding fits
  signs_at_fits schemes None request identity endpoint a h = same_fits kinds.Sign a answers.Absent h refl
  signs_at_fits schemes (Some place) request identity endpoint a h = same_fits kinds.Sign a _ h.2.2 (signed_fits h.2.0)

  signs_fit : (schemes : List A) (request : Option HttpRequest) (id : Option (List ℕ)) (identity : Option Identity) (endpoint : Option Endpoint) (a : Answer) → signing.Signs names signs schemes request id identity endpoint a → fits kinds.Sign a ≡ true
  unfolding fits
  signs_fit schemes (Some request) (Some id) (Some identity) (Some endpoint) a h = signs_at_fits schemes _ request identity endpoint a h
  signs_fit schemes None id identity endpoint a h = same_fits kinds.Sign a answers.Absent h refl
  signs_fit schemes (Some request) None identity endpoint a h = same_fits kinds.Sign a answers.Absent h refl
  signs_fit schemes (Some request) (Some id) None endpoint a h = same_fits kinds.Sign a answers.Absent h refl
  signs_fit schemes (Some request) (Some id) (Some identity) None a h = same_fits kinds.Sign a answers.Absent h refl

streamed_fits : (o : Option Outcome) → fits kinds.Stream (deserializing.streamed o) ≡ true
unfolding fits
streamed_fits None = refl
streamed_fits (Some outcome) = refl

streams_fit : {D : Type 0} → (says : D → HttpResponse → StandingLayers → Option Outcome → Type 0) (d : D) (may_stream : Bool) (response : Option HttpResponse) (settings : StandingLayers) (a : Answer)
    → deserializing.Streams says d may_stream response settings a → fits kinds.Stream a ≡ true
unfolding fits
streams_fit says d may_stream None settings a h = same_fits kinds.Stream a answers.Absent h refl
streams_fit says d false (Some response) settings a h = same_fits kinds.Stream a answers.NotStreaming h refl
streams_fit says d true (Some response) settings a h = same_fits kinds.Stream a _ h.2 (streamed_fits h.0)

deserializes_fit : {D : Type 0} → (says : D → HttpResponse → StandingLayers → Outcome → Type 0) (d : D) (response : Option HttpResponse) (settings : StandingLayers) (a : Answer)
    → deserializing.Deserializes says d response settings a → fits kinds.Deserialize a ≡ true
unfolding fits
deserializes_fit says d None settings a h = same_fits kinds.Deserialize a answers.Absent h refl
deserializes_fit says d (Some response) settings a h = same_fits kinds.Deserialize a _ h.2 refl

module _ {T X Q C I A R Z D P L : Type 0} (means : ClientMeaning T X Q C I A R Z D P L) where
  configures_fit : (old new : Parts T X Q C I A R Z D P L) (stage : ConfigureStage) (a : Answer) → Configures means.makes old stage a new → fits (kinds.Configure stage) a ≡ true
  unfolding fits
  configures_fit old new Client a h = same_fits (kinds.Configure Client) a _ h.0 refl
  configures_fit old new Operation a h = same_fits (kinds.Configure Operation) a _ h.0 refl
  configures_fit old new Final a h = same_fits (kinds.Configure Final) a _ h.0 (finished_fits (has_cache old.identities && not old.given.time_source) (has_cache old.identities && not old.given.sleep_impl))

  abandons_fit : (old new : Parts T X Q C I A R Z D P L) (what : Abandonable) (a : Answer) → Abandons means.makes old what a new → fits (kinds.Abandon what) a ≡ true
  unfolding fits
  abandons_fit old new abandoned.Choose a h = same_fits (kinds.Abandon abandoned.Choose) a answers.Abandoned h.0 refl
  abandons_fit old new abandoned.Load a h = same_fits (kinds.Abandon abandoned.Load) a answers.Abandoned h.0 refl
  abandons_fit old new abandoned.Endpoint a h = same_fits (kinds.Abandon abandoned.Endpoint) a answers.Abandoned h.0 refl
  abandons_fit old new abandoned.Transmit a h = same_fits (kinds.Abandon abandoned.Transmit) a answers.Abandoned h.0 refl
  abandons_fit old new abandoned.Body a h = same_fits (kinds.Abandon abandoned.Body) a answers.Abandoned h.0 refl
  abandons_fit old new abandoned.WaitSend a h = same_fits (kinds.Abandon abandoned.WaitSend) a answers.Abandoned h.0 refl
  abandons_fit old new abandoned.WaitRetry a h = same_fits (kinds.Abandon abandoned.WaitRetry) a answers.Abandoned h.0 refl
  abandons_fit old new abandoned.WaitLongPoll a h = same_fits (kinds.Abandon abandoned.WaitLongPoll) a answers.Abandoned h.0 refl

  pub answers_fit : (old new : Parts T X Q C I A R Z D P L) (q : Question) (a : Answer) → Answers means old q a new → fits (kind_of_question q) a ≡ true
  unfolding fits
  answers_fit old new (questions.Configure stage settings) a h = configures_fit old new stage a h
  answers_fit old new (questions.Hook hook view) a h =
      elim h.hooks [ inl x ↦ same_fits (kinds.Hook hook) a _ x.1 refl | inr x ↦ same_fits (kinds.Hook hook) a _ x.1.answer_is refl ]
  answers_fit old new (questions.Serialize input settings) a h = serializes_fit means.serializes old.given.serializer input settings a h.0
  answers_fit old new (questions.Load request) a h = same_fits kinds.Load a _ h.0 (loaded_fits request)
  answers_fit old new (questions.Initial settings) a h = begun_fits means.quota old.given.time_source settings old.strategy old.quota a new.strategy h.calls new.quota h.begun
  answers_fit old new (questions.Start role nanos) a h = starts_fit old.given.sleep_impl role nanos old.sleeps a new.sleeps h.0.calls h.0.these
  answers_fit old new (questions.Wait role) a h = waits_fit role _ a h.0.calls h.0.these
  answers_fit old new (questions.Choose settings) a h = chooses_fit means.names means.polls _ _ _ old.given.time_source settings old.identities.cached old.identities a new.identities h.calls h.chooses
  answers_fit old new (questions.Endpoint settings identity) a h = same_fits kinds.Endpoint a _ h.0 refl
  answers_fit old new (questions.Apply settings request endpoint) a h = applies_fit request endpoint settings a h.0
  answers_fit old new (questions.Sign settings request scheme identity endpoint) a h = signs_fit means.names means.signs old.given.schemes.items request scheme identity endpoint a h.0
  answers_fit old new (questions.Transmit settings request) a h = transmits_fit (means.sleeps old.outside) settings request old.call a new.call h.0.calls h.0.these
  answers_fit old new (questions.Stream settings response) a h = streams_fit means.streams old.given.deserializer old.given.may_stream response settings a h.0
  answers_fit old new (questions.Body settings response) a h = reads_fit (means.sleeps old.outside) settings response old.call a new.call h.0.calls h.0.these
  answers_fit old new (questions.Deserialize settings response) a h = deserializes_fit means.deserializes old.given.deserializer response settings a h.0
  answers_fit old new (questions.Decide settings request response outcome attempt) a h = decided_fits means.quota _ old.given.time_source _ old.strategy old.quota a new.strategy h.calls new.quota h.decided
  answers_fit old new (questions.Abandon what) a h = abandons_fit old new what a h
  answers_fit old new questions.Park a h = same_fits kinds.Park a answers.Parked h.0 refl

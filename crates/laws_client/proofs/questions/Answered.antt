-- A client's parts answer few questions of a run Absent.
use Rattle.std.proofs.Common.{◌≡◌, ◌∙◌, refl, sym, ap, subst, ℕ, Bool, true, false, not, ◌&&◌, if◌then◌else◌, List, [], ◌∷◌, ◌++◌, map, Option, None, Some, position}
use Rattle.auth_endpoint.specs.Choice.{is_id}
use Rattle.auth_endpoint.specs.declared.scheme.Signed.{Signed}
use Rattle.auth_endpoint.specs.declared.scheme.Signed.TheVariants as signed
use Rattle.client_auth.specs.Applying.{Applies, AppliesTo}
use Rattle.client_auth.specs.Deserializing as deserializing
use Rattle.client_auth.specs.Identities.{has_cache}
use Rattle.client_auth.specs.Serializing as serializing
use Rattle.client_auth.specs.Signing as signing
use Rattle.client_auth.specs.declared.serializer.Serialized.{Serialized}
use Rattle.client_auth.specs.declared.serializer.Serialized.TheVariants as serialized
use Rattle.client_call.specs.Loading.{loaded_body}
use Rattle.client_call.specs.Transmitting.{Pends, SentAs, StallsAs, Transmits}
use Rattle.client_call.specs.declared.call.Call.{Call}
use Rattle.client_call.specs.declared.upload.Upload.{Upload}
use Rattle.outside.specs.Calls.{OutsideCall}
use Rattle.outside.specs.declared.answers.Sent.{Sent}
use Rattle.outside.specs.declared.answers.Sent.TheVariants as sents
use Rattle.client_retries.specs.Configuring.{finished, no_sleep, no_time_source}
use Rattle.client_retries.specs.Hooking.{seen_context}
use Rattle.client_retries.specs.declared.configure.CacheNeeds.{CacheNeeds}
use Rattle.run_grammar.specs.Entry.{kind_of}
use Rattle.run_grammar.specs.Fits.{fits}
use Rattle.run_grammar.specs.Question.{kind_of_question}
use Rattle.run_grammar.specs.Standing.{standing, start}
use Rattle.run_grammar.specs.declared.answer.Answer.{Answer}
use Rattle.run_grammar.specs.declared.answer.Answer.TheVariants as answers
use Rattle.run_grammar.specs.declared.answer.Entry.{Entry}
use Rattle.run_grammar.specs.declared.kind.ConfigureStage.TheVariants as stages
use Rattle.run_grammar.specs.declared.kind.Kind.TheVariants as kinds
use Rattle.run_grammar.specs.declared.question.Question.{Question}
use Rattle.run_grammar.specs.declared.question.Question.TheVariants as questions
use Rattle.run_grammar.proofs.Paths.{fits_of, handed_of}
use Rattle.smithy_context.specs.StandingLayers.{StandingLayers}
use Rattle.smithy_types.specs.declared.fault.Fault.{Fault}
use Rattle.smithy_types.specs.declared.fault.Outcome.{Outcome}
use Rattle.smithy_types.specs.declared.http.Body.{Body}
use Rattle.smithy_types.specs.declared.http.Body.TheVariants as bodies
use Rattle.smithy_types.specs.declared.http.HttpRequest.{HttpRequest}
use Rattle.smithy_types.specs.declared.identity.Endpoint.{Endpoint}
use Rattle.smithy_types.specs.declared.identity.Identity.{Identity}
use Rattle.client_components.specs.Retrying.{decided_view, verdict_on}
use Rattle.client_components.specs.Meaning.{ClientMeaning}
use Rattle.client_components.specs.Serving.{Answers, Served}
use Rattle.client_components.specs.declared.parts.Parts.{Parts}
use Rattle.laws_client.specs.Questions.Answering.{AbsenceCause, AbsencesHaveCauses}
use Rattle.laws_client.specs.Questions.Handing.{HandsParts}
use Rattle.laws_client.proofs.questions.Handed.{handed_at, parts_handed}
use Rattle.client_call.proofs.CauseProofs.{absent_without_sleeps}
use Rattle.laws_client.proofs.questions.Lacking.{begun_exactly, decided_exactly}
use Rattle.laws_client.proofs.questions.Bodies.{open_before}
use Rattle.laws_client.proofs.questions.OpenCalls.{IsOpen, not_absent, says_on}
use Rattle.laws_client.proofs.questions.Choices.{ChoosesWell, not_placed}
use Rattle.laws_client.proofs.questions.Schemes.{HandsKnown, Known, chosen_well, given_on, known_asked, known_at, scheme_ids}

-- ---- what isn't Absent

finished_first : (b c : Bool) (t u : List ℕ) → (if b then answers.Failed t else if c then answers.Failed u else answers.Layer []) ≡ answers.Absent → ⊥
finished_first true c t u e = cc
finished_first false true t u e = cc
finished_first false false t u e = cc

not_finished : (needs : CacheNeeds) → finished needs ≡ answers.Absent → ⊥
not_finished needs e = finished_first (needs.lazy_cache && not needs.time_source) (needs.lazy_cache && not needs.sleep_impl) no_time_source no_sleep e

not_serialized : (r : Serialized) → serializing.answer_of r ≡ answers.Absent → ⊥
not_serialized (serialized.Request r) e = cc
not_serialized (serialized.Failed t) e = cc

not_signed : (r : Signed) → signing.answer_of r ≡ answers.Absent → ⊥
not_signed (signed.Request r) e = cc
not_signed (signed.Failed t) e = cc

not_loaded : (b : Body) → loaded_body b ≡ answers.Absent → ⊥
not_loaded (bodies.Bytes b) e = cc
not_loaded (bodies.Once b) e = cc
not_loaded bodies.Taken e = cc

not_streamed : (o : Option Outcome) → deserializing.streamed o ≡ answers.Absent → ⊥
not_streamed None e = cc
not_streamed (Some o) e = cc

not_stalled : (fault : Option Fault) (upload : Upload) (a : Answer) (new : Call) → StallsAs fault upload a new → a ≡ answers.Absent → ⊥
not_stalled None upload a new h e = let clash = sym e ∙ h.0 in cc clash
not_stalled (Some fault) upload a new h e = let clash = sym e ∙ h.0 in cc clash

not_pending : (sleeps : Bool) (upload : Option Upload) (a : Answer) (new : Call) (calls : List OutsideCall) → Pends sleeps upload a new calls → a ≡ answers.Absent → ⊥
not_pending sleeps None a new calls h e = let clash = sym e ∙ h.0 in cc clash
not_pending sleeps (Some upload) a new calls h e = not_stalled h.fault h.looked a new h.stalls e

not_sent : (sleeps : Bool) (upload : Option Upload) (sent : Sent) (a : Answer) (new : Call) (calls : List OutsideCall) → SentAs sleeps upload sent a new calls → a ≡ answers.Absent → ⊥
not_sent sleeps upload sents.Pending a new calls h e = not_pending sleeps upload a new calls h e
not_sent sleeps upload (sents.Response response) a new calls h e = let clash = sym e ∙ h.0 in cc clash
not_sent sleeps upload (sents.Failed kind text) a new calls h e = let clash = sym e ∙ h.0 in cc clash

not_transmitted : (sleeps : Bool) (settings : StandingLayers) (request : Option HttpRequest) (old : Call) (a : Answer) (new : Call) (calls : List OutsideCall) → HandsParts (questions.Transmit settings request)
    → Transmits sleeps settings request old a new calls → a ≡ answers.Absent → ⊥
not_transmitted sleeps settings None old a new calls p h e = absurd (cc)
not_transmitted sleeps settings (Some request) old a new calls p h e = not_sent sleeps h.upload h.sent a new h.looking h.sent_as e

not_applied : (request : Option HttpRequest) (endpoint : Option Endpoint) (settings : StandingLayers) (a : Answer) → HandsParts (questions.Apply settings request endpoint) → Applies request endpoint settings a → a ≡ answers.Absent → ⊥
not_applied None endpoint settings a p h e = absurd (let none = p.0 in cc none)
not_applied (Some request) None settings a p h e = absurd (let none = p.1 in cc none)
not_applied (Some request) (Some endpoint) settings a p h e = subst (AppliesTo request endpoint settings) e h

-- the kinds that no fitting answer Absent has
unfit : (q : Question) (a : Answer) → fits (kind_of_question q) answers.Absent ≡ false → fits (kind_of_question q) a ≡ true → a ≡ answers.Absent → ⊥
unfit q a n f e = let clash = sym n ∙ (ap (fits (kind_of_question q)) (sym e) ∙ f) in cc clash

module _ {T X Q C I A R Z D P L : Type 0} (means : ClientMeaning T X Q C I A R Z D P L) where
  at_scheme : (schemes : List A) (place : Option ℕ) (request : HttpRequest) (identity : Identity) (endpoint : Endpoint) (a : Answer)
      → signing.SignsAt means.names means.signs schemes place request identity endpoint a → a ≡ answers.Absent → place ≡ None
  at_scheme schemes None request identity endpoint a h e = refl
  at_scheme schemes (Some place) request identity endpoint a h e = absurd (not_signed h.2.0 (sym h.2.2 ∙ e))

  unsigned : (schemes : List A) (settings : StandingLayers) (request : Option HttpRequest) (id : Option (List ℕ)) (identity : Option Identity) (endpoint : Option Endpoint) (a : Answer)
      → HandsParts (questions.Sign settings request id identity endpoint) → Known (map means.names schemes) id → signing.Signs means.names means.signs schemes request id identity endpoint a → a ≡ answers.Absent → ⊥
  unsigned schemes settings None id identity endpoint a p k h e = absurd (let none = p.0 in cc none)
  unsigned schemes settings (Some request) None identity endpoint a p k h e = absurd (let none = p.1 in cc none)
  unsigned schemes settings (Some request) (Some id) None endpoint a p k h e = absurd (let none = p.2 in cc none)
  unsigned schemes settings (Some request) (Some id) (Some identity) None a p k h e = absurd (let none = p.3 in cc none)
  unsigned schemes settings (Some request) (Some id) (Some identity) (Some endpoint) a p k h e =
      not_placed means.names id schemes k (at_scheme schemes (position (λ s. is_id id (means.names s)) schemes) request identity endpoint a h e)

  answered : (old new : Parts T X Q C I A R Z D P L) (q : Question) (a : Answer) → HandsParts q → HandsKnown (scheme_ids means old) q → (kind_of_question q ≡ kinds.Body → IsOpen old.call) → fits (kind_of_question q) a ≡ true → Answers means old q a new
      → a ≡ answers.Absent → AbsenceCause means old q
  unfolding fits
  answered old new (questions.Configure stages.Client settings) a p k o f h e = let clash = sym e ∙ h.0 in cc clash
  answered old new (questions.Configure stages.Operation settings) a p k o f h e = let clash = sym e ∙ h.0 in cc clash
  answered old new (questions.Configure stages.Final settings) a p k o f h e =
      not_finished (record { lazy_cache = has_cache old.identities; time_source = old.given.time_source; sleep_impl = old.given.sleep_impl }) (sym h.0 ∙ e)
  answered old new (questions.Hook hook view) a p k o f h e = unfit (questions.Hook hook view) a refl f e
  answered old new (questions.Serialize None settings) a p k o f h e = absurd (cc)
  answered old new (questions.Serialize (Some input) settings) a p k o f h e = not_serialized h.0.0 (sym h.0.2 ∙ e)
  answered old new (questions.Load None) a p k o f h e = absurd (cc)
  answered old new (questions.Load (Some request)) a p k o f h e = not_loaded request.body (sym h.0 ∙ e)
  answered old new (questions.Initial settings) a p k o f h e = (begun_exactly means.quota old.given.time_source settings old.strategy old.quota a new.strategy h.calls new.quota h.begun).0 e
  answered old new (questions.Start role nanos) a p k o f h e = (absent_without_sleeps old.given.sleep_impl role nanos old.sleeps a new.sleeps h.0.calls h.0.these).0 e
  answered old new (questions.Wait role) a p k o f h e = unfit (questions.Wait role) a refl f e
  answered old new (questions.Choose settings) a p k o f h e = subst (ChoosesWell (scheme_ids means old)) e (chosen_well means old new (questions.Choose settings) a h)
  answered old new (questions.Endpoint settings identity) a p k o f h e = let clash = sym e ∙ h.0 in cc clash
  answered old new (questions.Apply settings request endpoint) a p k o f h e = not_applied request endpoint settings a p h.0 e
  answered old new (questions.Sign settings request scheme identity endpoint) a p k o f h e =
      unsigned old.given.schemes.items settings request scheme identity endpoint a p k h.0 e
  answered old new (questions.Transmit settings request) a p k o f h e =
      not_transmitted (means.sleeps old.outside) settings request old.call a new.call h.0.calls p h.0.these e
  answered old new (questions.Stream settings None) a p k o f h e = absurd (cc)
  answered old new (questions.Stream settings (Some response)) a p k o f h e = not_asked old.given.may_stream h.0
    where
      not_asked : (may : Bool) → deserializing.Streams means.streams old.given.deserializer may (Some response) settings a → ⊥
      not_asked false s = let clash = sym e ∙ s in cc clash
      not_asked true s = not_streamed s.0 (sym s.2 ∙ e)
  answered old new (questions.Body settings response) a p k o f h e = not_absent (means.sleeps old.outside) settings response old.call a new.call h.0.calls (o refl) h.0.these e
  answered old new (questions.Deserialize settings None) a p k o f h e = absurd (cc)
  answered old new (questions.Deserialize settings (Some response)) a p k o f h e = let clash = sym e ∙ h.0.2 in cc clash
  answered old new (questions.Decide settings request response outcome attempt) a p k o f h e =
      (decided_exactly means.quota (verdict_on means.makes means.says old (seen_context (decided_view settings request response outcome attempt))) old.given.time_source
      (seen_context (decided_view settings request response outcome attempt)) old.strategy old.quota a new.strategy h.calls new.quota h.decided).0 e
  answered old new (questions.Abandon abandoned) a p k o f h e = unfit (questions.Abandon abandoned) a refl f e
  answered old new questions.Park a p k o f h e = unfit questions.Park a refl f e

  -- where there is a cause
  caused : (old new : Parts T X Q C I A R Z D P L) (q : Question) (a : Answer) → Answers means old q a new → AbsenceCause means old q → a ≡ answers.Absent
  caused old new (questions.Initial settings) a h c = (begun_exactly means.quota old.given.time_source settings old.strategy old.quota a new.strategy h.calls new.quota h.begun).1 c
  caused old new (questions.Start role nanos) a h c = (absent_without_sleeps old.given.sleep_impl role nanos old.sleeps a new.sleeps h.0.calls h.0.these).1 c
  caused old new (questions.Decide settings request response outcome attempt) a h c =
      (decided_exactly means.quota (verdict_on means.makes means.says old (seen_context (decided_view settings request response outcome attempt))) old.given.time_source
      (seen_context (decided_view settings request response outcome attempt)) old.strategy old.quota a new.strategy h.calls new.quota h.decided).1 c
  caused old new _ a h c = absurd c

  -- ---- lists

  pub last_served : (before : List Entry) (e : Entry) (old new : Parts T X Q C I A R Z D P L) → Served means old (before ++ e ∷ []) new
      → (mid : Parts T X Q C I A R Z D P L) × Served means old before mid × Answers means mid e.question e.answer new
  last_served [] e old new (mid, serves, same) = (old, refl, subst (Answers means old e.question e.answer) (sym same) serves)
  last_served (x ∷ before) e old new (mid, serves, rest) = let r = last_served before e mid new rest in (r.0, (mid, serves, r.1), r.2)

  pub absences_caused : AbsencesHaveCauses means
  absences_caused stop p old new before e begun served =
      let at = last_served before e old new served in
      let whole = begun.1 in
      let fitting = fits_of before (e ∷ []) (fits_of (before ++ e ∷ []) begun.0 whole.fitting).0 in
      let handed = handed_at before e [] (start p) (handed_of (before ++ e ∷ []) begun.0 (start p) whole.handed).0 in
      let known = known_asked (scheme_ids means at.0) (kind_of e) (standing (start p) before) (known_at means before old at.0 (start p) at.1 tt) in
      record {
        parts = at.0;
        served = at.1;
        given = given_on means before old at.0 at.1;
        exactly = (
          answered at.0 new e.question e.answer (parts_handed stop p before e begun) (subst (HandsKnown (scheme_ids means at.0)) (sym handed) known)
              (λ k. says_on means before old at.0 false (λ c. absurd (cc c)) at.1 (open_before stop p before e begun k false)) fitting.1.0 at.2,
          caused at.0 new e.question e.answer at.2,
        );
      }

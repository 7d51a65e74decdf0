-- The open call stays sound, and its answers have their causes.
use Rattle.std.proofs.Common.{◌≡◌, ap, subst, sym, Bool, true, false, List, [], ◌∷◌, Option, None, Some}
use Rattle.client_call.proofs.UploadProofs.{uploads_never_stall}
use Rattle.client_call.proofs.WholeReads.{bodies_are_whole}
use Rattle.client_call.specs.Causes.{IsCounted, IsUploaded}
use Rattle.client_call.specs.Ending.{call_without}
use Rattle.client_call.specs.Reading.{ClosesAs, Opens, ReadsOn, failed_call}
use Rattle.client_call.specs.Transmitting.{Pends, SentAs, StallsAs, Transmits}
use Rattle.client_call.specs.declared.call.Call.{Call}
use Rattle.client_call.specs.declared.call.Call.TheVariants.{Idle, Sending, Arrived, Reading, Left}
use Rattle.client_call.specs.declared.reading.Reading.{Reading as OpenBody}
use Rattle.client_call.specs.declared.reading.Stop.{Stop}
use Rattle.client_call.specs.declared.reading.Stop.TheVariants as stops
use Rattle.client_call.specs.declared.upload.Upload.{Upload}
use Rattle.client_components.specs.Resting.{Exchanges}
use Rattle.client_components.specs.Meaning.{ClientMeaning}
use Rattle.client_components.specs.Serving.{Answers, Served}
use Rattle.client_components.specs.declared.parts.Parts.{Parts}
use Rattle.outside.specs.Calls.{OutsideCall}
use Rattle.outside.specs.declared.answers.Sent.{Sent}
use Rattle.outside.specs.declared.answers.Sent.TheVariants as sents
use Rattle.run_grammar.specs.declared.answer.Answer.{Answer}
use Rattle.run_grammar.specs.declared.answer.Entry.{Entry}
use Rattle.run_grammar.specs.declared.kind.Abandonable.{Abandonable}
use Rattle.run_grammar.specs.declared.kind.Abandonable.TheVariants as abandoned
use Rattle.run_grammar.specs.declared.kind.ConfigureStage.TheVariants as stages
use Rattle.run_grammar.specs.declared.question.Question.{Question}
use Rattle.run_grammar.specs.declared.question.Question.TheVariants as questions
use Rattle.smithy_context.specs.StandingLayers.{StandingLayers}
use Rattle.smithy_types.specs.Chain.{Chained}
use Rattle.smithy_types.specs.declared.fault.Fault.{Fault}
use Rattle.smithy_types.specs.declared.http.HttpRequest.{HttpRequest}
use Rattle.smithy_types.specs.declared.http.HttpResponse.{HttpResponse}
use Rattle.laws_client.specs.Questions.Calling.{CallsStaySound, HasCause, IsSound, ServesCaused}

-- nothing is open
idle_sound : IsSound Idle
idle_sound = record { uploaded = tt; counted = tt }

idle_so : (call : Call) → call ≡ Idle → IsSound call
idle_so call is = subst IsSound (sym is) idle_sound

-- ---- a Transmit leaves no body that is read

stalled_counts : (fault : Option Fault) (upload : Upload) (a : Answer) (new : Call) → StallsAs fault upload a new → IsCounted new
stalled_counts None upload a new h = subst IsCounted (sym h.1) tt
stalled_counts (Some fault) upload a new h = subst IsCounted (sym h.1) tt

pending_counts : (sleeps : Bool) (upload : Option Upload) (a : Answer) (new : Call) (calls : List OutsideCall) → Pends sleeps upload a new calls → IsCounted new
pending_counts sleeps None a new calls h = subst IsCounted (sym h.1) tt
pending_counts sleeps (Some upload) a new calls h = stalled_counts h.fault h.looked a new h.stalls

sent_counts : (sleeps : Bool) (upload : Option Upload) (sent : Sent) (a : Answer) (new : Call) (calls : List OutsideCall) → SentAs sleeps upload sent a new calls → IsCounted new
sent_counts sleeps upload sents.Pending a new calls h = pending_counts sleeps upload a new calls h
sent_counts sleeps upload (sents.Response response) a new calls h = subst IsCounted (sym h.1) tt
sent_counts sleeps upload (sents.Failed kind text) a new calls h = subst IsCounted (sym h.1) tt

transmit_counts : (sleeps : Bool) (settings : StandingLayers) (request : Option HttpRequest) (old : Call) (a : Answer) (new : Call) (calls : List OutsideCall) → IsCounted old → Transmits sleeps settings request old a new calls → IsCounted new
transmit_counts sleeps settings None old a new calls c h = subst IsCounted (sym h.1) c
transmit_counts sleeps settings (Some request) old a new calls c h = sent_counts sleeps h.upload h.sent a new h.looking h.sent_as

-- ---- a Body leaves no upload but one that was there

failed_uploads : (over : Bool) → IsUploaded (failed_call over)
failed_uploads true = tt
failed_uploads false = tt

closed_uploads : (stop : Stop) (end : OpenBody) (a : Answer) (new : Call) → ClosesAs stop end a new → IsUploaded new
closed_uploads stops.Pending end a new h = subst IsUploaded (sym h.1) tt
closed_uploads stops.End end a new h = subst IsUploaded (sym h.1) tt
closed_uploads (stops.Failed text over) end a new h = subst IsUploaded (sym h.1) (failed_uploads over)
closed_uploads stops.TooLong end a new h = subst IsUploaded (sym h.1) tt

read_uploads : (sleeps : Bool) (old : Call) (a : Answer) (new : Call) (calls : List OutsideCall) → IsUploaded old → ReadsOn sleeps old a new calls → IsUploaded new
read_uploads sleeps (Reading body) a new calls u h = closed_uploads h.stop h.end a new h.closes
read_uploads sleeps Idle a new calls u h = subst IsUploaded (sym h.1) u
read_uploads sleeps (Sending upload) a new calls u h = subst IsUploaded (sym h.1) u
read_uploads sleeps Arrived a new calls u h = subst IsUploaded (sym h.1) u
read_uploads sleeps Left a new calls u h = subst IsUploaded (sym h.1) u

opened_uploads : (settings : StandingLayers) (response : Option HttpResponse) (old opened : Call) (calls : List OutsideCall) → IsUploaded old → Opens settings response old opened calls → IsUploaded opened
opened_uploads settings response Arrived opened calls u h = subst IsUploaded (sym h.1) tt
opened_uploads settings response Idle opened calls u h = subst IsUploaded (sym h.0) u
opened_uploads settings response (Sending upload) opened calls u h = subst IsUploaded (sym h.0) u
opened_uploads settings response (Reading body) opened calls u h = subst IsUploaded (sym h.0) u
opened_uploads settings response Left opened calls u h = subst IsUploaded (sym h.0) u

-- ---- what is given up

left_sound : (pending : Abandonable) (old : Call) → IsSound old → IsSound (call_without pending old)
left_sound abandoned.Transmit old s = idle_sound
left_sound abandoned.Body old s = idle_sound
left_sound abandoned.Load old s = s
left_sound abandoned.Choose old s = s
left_sound abandoned.Endpoint old s = s
left_sound abandoned.WaitSend old s = s
left_sound abandoned.WaitRetry old s = s
left_sound abandoned.WaitLongPoll old s = s

module _ {T X Q C I A R Z D P L : Type 0} (means : ClientMeaning T X Q C I A R Z D P L) where
  abbrev IsSoundIn : Parts T X Q C I A R Z D P L → Type 0
  IsSoundIn parts = IsSound parts.call

  -- the call stays sound
  stays_sound : (old new : Parts T X Q C I A R Z D P L) (q : Question) (a : Answer) → IsSound old.call → Answers means old q a new → IsSound new.call
  stays_sound old new (questions.Configure stages.Client settings) a s h = idle_so new.call (ap (λ (p : Parts T X Q C I A R Z D P L). p.call) h.1.others)
  stays_sound old new (questions.Configure stages.Operation settings) a s h = subst IsSoundIn (sym h.1) s
  stays_sound old new (questions.Configure stages.Final settings) a s h = subst IsSoundIn (sym h.1) s
  stays_sound old new (questions.Hook hook view) a s h = subst IsSoundIn (sym h.others) s
  stays_sound old new (questions.Serialize input settings) a s h = subst IsSoundIn (sym h.1) s
  stays_sound old new (questions.Load request) a s h = subst IsSoundIn (sym h.1) s
  stays_sound old new (questions.Initial settings) a s h = subst IsSoundIn (sym h.others) s
  stays_sound old new (questions.Start role nanos) a s h = subst IsSoundIn (sym h.1) s
  stays_sound old new (questions.Wait role) a s h = subst IsSoundIn (sym h.1) s
  stays_sound old new (questions.Choose settings) a s h = subst IsSoundIn (sym h.others) s
  stays_sound old new (questions.Endpoint settings identity) a s h = subst IsSoundIn (sym h.1) s
  stays_sound old new (questions.Apply settings request endpoint) a s h = subst IsSoundIn (sym h.1) s
  stays_sound old new (questions.Sign settings request scheme identity endpoint) a s h = subst IsSoundIn (sym h.1) s
  stays_sound old new (questions.Transmit settings request) a s h = record {
    uploaded = (uploads_never_stall (means.sleeps old.outside) settings request old.call a new.call h.0.calls h.0.these s.uploaded).uploaded;
    counted = transmit_counts (means.sleeps old.outside) settings request old.call a new.call h.0.calls s.counted h.0.these;
  }
  stays_sound old new (questions.Stream settings response) a s h = subst IsSoundIn (sym h.1) s
  stays_sound old new (questions.Body settings response) a s h = record {
    uploaded = read_uploads (means.sleeps old.outside) h.0.these.opened a new.call h.0.these.reading (opened_uploads settings response old.call h.0.these.opened h.0.these.opening s.uploaded h.0.these.opens) h.0.these.reads;
    counted = (bodies_are_whole (means.sleeps old.outside) settings response old.call a new.call h.0.calls h.0.these s.counted).counted;
  }
  stays_sound old new (questions.Deserialize settings response) a s h = subst IsSoundIn (sym h.1) s
  stays_sound old new (questions.Decide settings request response outcome attempt) a s h = subst IsSoundIn (sym h.others) s
  stays_sound old new (questions.Abandon abandoned.Choose) a s h = subst IsSoundIn (sym h.2) s
  stays_sound old new (questions.Abandon pending) a s h = subst IsSoundIn (sym h.2) (left_sound pending old.call s)
  stays_sound old new questions.Park a s h = subst IsSoundIn (sym h.2) s

  -- and its answers have their causes
  has_cause : (old new : Parts T X Q C I A R Z D P L) (q : Question) (a : Answer) → IsSound old.call → Answers means old q a new → HasCause means old q a new
  has_cause old new (questions.Transmit settings request) a s h = record {
    calls = h.0.calls;
    made = h.0.made;
    told = uploads_never_stall (means.sleeps old.outside) settings request old.call a new.call h.0.calls h.0.these s.uploaded;
  }
  has_cause old new (questions.Body settings response) a s h = record {
    calls = h.0.calls;
    made = h.0.made;
    told = bodies_are_whole (means.sleeps old.outside) settings response old.call a new.call h.0.calls h.0.these s.counted;
  }
  has_cause old new _ a s h = tt

  served_sound : (old new : Parts T X Q C I A R Z D P L) (l : List Entry) → IsSound old.call → Served means old l new → IsSound new.call
  served_sound old new [] s h = subst IsSoundIn (sym h) s
  served_sound old new (e ∷ l) s (mid, serves, rest) = served_sound mid new l (stays_sound old mid e.question e.answer s serves) rest

  all_caused : (old new : Parts T X Q C I A R Z D P L) (l : List Entry) → IsSound old.call → Served means old l new → Chained (ServesCaused means) old l new
  all_caused old new [] s h = h
  all_caused old new (e ∷ l) s (mid, serves, rest) =
      (mid, (serves, has_cause old mid e.question e.answer s serves), all_caused mid new l (stays_sound old mid e.question e.answer s serves) rest)

  exchanged_sound : (old : Parts T X Q C I A R Z D P L) (outside : X) (quota : Q) (new : Parts T X Q C I A R Z D P L) (outside_after : X) (quota_after : Q)
      → Exchanges means.makes old outside quota new outside_after quota_after → IsSound new.call
  exchanged_sound old outside quota new outside_after quota_after h =
      subst IsSoundIn (sym h.parts) (idle_so h.ended.call (ap (λ (p : Parts T X Q C I A R Z D P L). p.call) h.ends.others))

  pub calls_stay_sound : CallsStaySound means
  calls_stay_sound = record {
    begun = λ parts is. idle_so parts.call is;
    exchanged = exchanged_sound;
    served = served_sound;
    caused = all_caused;
  }

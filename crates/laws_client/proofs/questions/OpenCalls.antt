-- Where the entries say that a body is open, the client's call has one, and a Body isn't answered Absent.
use Rattle.std.proofs.Common.{◌≡◌, ◌∙◌, sym, ap, subst, Bool, true, List, [], ◌∷◌, Option, None, Some}
use Rattle.client_call.specs.Reading.{ClosesAs, Opens, Reads, ReadsOn}
use Rattle.client_call.specs.Transmitting.{Pends, SentAs, StallsAs, Transmits}
use Rattle.client_call.specs.declared.call.Call.{Call}
use Rattle.client_call.specs.declared.call.Call.TheVariants.{Idle, Sending, Arrived, Reading, Left}
use Rattle.client_call.specs.declared.reading.Reading.{Reading as OpenBody}
use Rattle.client_call.specs.declared.reading.Stop.{Stop}
use Rattle.client_call.specs.declared.reading.Stop.TheVariants as stops
use Rattle.client_call.specs.declared.upload.Upload.{Upload}
use Rattle.outside.specs.Calls.{OutsideCall}
use Rattle.outside.specs.declared.answers.Sent.{Sent}
use Rattle.outside.specs.declared.answers.Sent.TheVariants as sents
use Rattle.run_grammar.specs.Entry.{is_pending, kind_of}
use Rattle.run_grammar.specs.Question.{kind_of_question}
use Rattle.run_grammar.specs.declared.answer.Answer.{Answer}
use Rattle.run_grammar.specs.declared.answer.Answer.TheVariants as answers
use Rattle.run_grammar.specs.declared.answer.Entry.{Entry}
use Rattle.run_grammar.specs.declared.question.Question.{Question}
use Rattle.run_grammar.specs.declared.question.Question.TheVariants as questions
use Rattle.run_grammar.proofs.Watch.{both}
use Rattle.smithy_context.specs.StandingLayers.{StandingLayers}
use Rattle.smithy_types.specs.declared.fault.Fault.{Fault}
use Rattle.smithy_types.specs.declared.http.HttpRequest.{HttpRequest}
use Rattle.smithy_types.specs.declared.http.HttpResponse.{HttpResponse}
use Rattle.client_components.specs.Meaning.{ClientMeaning}
use Rattle.client_components.specs.Serving.{Answers, Served}
use Rattle.client_components.specs.declared.parts.Parts.{Parts}
use Rattle.laws_client.proofs.questions.Bodies.{along, came, opens}

abbrev pub IsOpen : Call → Type 0
IsOpen Arrived = Unit {0}
IsOpen (Reading body) = Unit {0}
IsOpen Idle = ⊥
IsOpen (Sending upload) = ⊥
IsOpen Left = ⊥

-- ---- what a Transmit leaves

stalled_open : (fault : Option Fault) (upload : Upload) (a : Answer) (new : Call) → StallsAs fault upload a new → came a ≡ true → IsOpen new
stalled_open None upload a new h c = absurd (let clash = sym (ap came h.0) ∙ c in cc clash)
stalled_open (Some fault) upload a new h c = absurd (let clash = sym (ap came h.0) ∙ c in cc clash)

pending_open : (sleeps : Bool) (upload : Option Upload) (a : Answer) (new : Call) (calls : List OutsideCall) → Pends sleeps upload a new calls → came a ≡ true → IsOpen new
pending_open sleeps None a new calls h c = absurd (let clash = sym (ap came h.0) ∙ c in cc clash)
pending_open sleeps (Some upload) a new calls h c = stalled_open h.fault h.looked a new h.stalls c

sent_open : (sleeps : Bool) (upload : Option Upload) (sent : Sent) (a : Answer) (new : Call) (calls : List OutsideCall) → SentAs sleeps upload sent a new calls → came a ≡ true → IsOpen new
sent_open sleeps upload sents.Pending a new calls h c = pending_open sleeps upload a new calls h c
sent_open sleeps upload (sents.Response response) a new calls h c = subst IsOpen (sym h.1) tt
sent_open sleeps upload (sents.Failed kind text) a new calls h c = absurd (let clash = sym (ap came h.0) ∙ c in cc clash)

transmit_open : (sleeps : Bool) (settings : StandingLayers) (request : Option HttpRequest) (old : Call) (a : Answer) (new : Call) (calls : List OutsideCall) → Transmits sleeps settings request old a new calls → came a ≡ true → IsOpen new
transmit_open sleeps settings None old a new calls h c = absurd (let clash = sym (ap came h.0) ∙ c in cc clash)
transmit_open sleeps settings (Some request) old a new calls h c = sent_open sleeps h.upload h.sent a new h.looking h.sent_as c

-- ---- what a Body leaves

closed_open : (stop : Stop) (end : OpenBody) (a : Answer) (new : Call) → ClosesAs stop end a new → is_pending a ≡ true → IsOpen new
closed_open stops.Pending end a new h p = subst IsOpen (sym h.1) tt
closed_open stops.End end a new h p = absurd (let clash = sym (ap is_pending h.0) ∙ p in cc clash)
closed_open (stops.Failed text over) end a new h p = absurd (let clash = sym (ap is_pending h.0) ∙ p in cc clash)
closed_open stops.TooLong end a new h p = absurd (let clash = sym (ap is_pending h.0) ∙ p in cc clash)

read_open : (sleeps : Bool) (old : Call) (a : Answer) (new : Call) (calls : List OutsideCall) → ReadsOn sleeps old a new calls → is_pending a ≡ true → IsOpen new
read_open sleeps (Reading body) a new calls h p = closed_open h.stop h.end a new h.closes p
read_open sleeps Idle a new calls h p = absurd (let clash = sym (ap is_pending h.0) ∙ p in cc clash)
read_open sleeps (Sending upload) a new calls h p = absurd (let clash = sym (ap is_pending h.0) ∙ p in cc clash)
read_open sleeps Arrived a new calls h p = absurd (let clash = sym (ap is_pending h.0) ∙ p in cc clash)
read_open sleeps Left a new calls h p = absurd (let clash = sym (ap is_pending h.0) ∙ p in cc clash)

-- ---- a Body of an open one

closed_not_absent : (stop : Stop) (end : OpenBody) (a : Answer) (new : Call) → ClosesAs stop end a new → a ≡ answers.Absent → ⊥
closed_not_absent stops.Pending end a new h e = let clash = sym e ∙ h.0 in cc clash
closed_not_absent stops.End end a new h e = let clash = sym e ∙ h.0 in cc clash
closed_not_absent (stops.Failed text over) end a new h e = let clash = sym e ∙ h.0 in cc clash
closed_not_absent stops.TooLong end a new h e = let clash = sym e ∙ h.0 in cc clash

reading_of : (settings : StandingLayers) (response : Option HttpResponse) (old opened : Call) (calls : List OutsideCall) → IsOpen old → Opens settings response old opened calls → (body : OpenBody) × (opened ≡ Reading body)
reading_of settings response Arrived opened calls o h = (h.0, h.1)
reading_of settings response (Reading body) opened calls o h = (body, h.0)
reading_of settings response Idle opened calls o h = absurd o
reading_of settings response (Sending upload) opened calls o h = absurd o
reading_of settings response Left opened calls o h = absurd o

pub not_absent : (sleeps : Bool) (settings : StandingLayers) (response : Option HttpResponse) (old : Call) (a : Answer) (new : Call) (calls : List OutsideCall) → IsOpen old → Reads sleeps settings response old a new calls → a ≡ answers.Absent → ⊥
not_absent sleeps settings response old a new calls o h e =
    let body = reading_of settings response old h.opened h.opening o h.opens in
    let reads = subst (λ c. ReadsOn sleeps c a new h.reading) body.1 h.reads in
    closed_not_absent reads.stop reads.end a new reads.closes e

module _ {T X Q C I A R Z D P L : Type 0} (means : ClientMeaning T X Q C I A R Z D P L) where
  -- a body is open where it is said so
  abbrev pub Says : Bool → Parts T X Q C I A R Z D P L → Type 0
  Says b parts = b ≡ true → IsOpen parts.call

  says_step : (old new : Parts T X Q C I A R Z D P L) (q : Question) (a : Answer) (b : Bool) → Says b old → Answers means old q a new → Says (opens b (kind_of_question q) a) new
  says_step old new (questions.Configure stage settings) a b s h = λ o. absurd (cc o)
  says_step old new (questions.Hook hook view) a b s h = subst (Says b) (sym h.others) s
  says_step old new (questions.Serialize input settings) a b s h = subst (Says b) (sym h.1) s
  says_step old new (questions.Load request) a b s h = subst (Says b) (sym h.1) s
  says_step old new (questions.Initial settings) a b s h = subst (Says b) (sym h.others) s
  says_step old new (questions.Start role nanos) a b s h = subst (Says b) (sym h.1) s
  says_step old new (questions.Wait role) a b s h = subst (Says b) (sym h.1) s
  says_step old new (questions.Choose settings) a b s h = subst (Says b) (sym h.others) s
  says_step old new (questions.Endpoint settings identity) a b s h = subst (Says b) (sym h.1) s
  says_step old new (questions.Apply settings request endpoint) a b s h = subst (Says b) (sym h.1) s
  says_step old new (questions.Sign settings request scheme identity endpoint) a b s h = subst (Says b) (sym h.1) s
  says_step old new (questions.Transmit settings request) a b s h = λ o. transmit_open (means.sleeps old.outside) settings request old.call a new.call h.0.calls h.0.these o
  says_step old new (questions.Stream settings response) a b s h = subst (Says b) (sym h.1) s
  says_step old new (questions.Body settings response) a b s h = λ o. read_open (means.sleeps old.outside) h.0.these.opened a new.call h.0.these.reading h.0.these.reads (both (is_pending a) b o).0
  says_step old new (questions.Deserialize settings response) a b s h = subst (Says b) (sym h.1) s
  says_step old new (questions.Decide settings request response outcome attempt) a b s h = subst (Says b) (sym h.others) s
  says_step old new (questions.Abandon abandoned) a b s h = λ o. absurd (cc o)
  says_step old new questions.Park a b s h = subst (Says b) (sym h.2) s

  pub says_on : (before : List Entry) (old mid : Parts T X Q C I A R Z D P L) (b : Bool) → Says b old → Served means old before mid → along b before ≡ true → IsOpen mid.call
  says_on [] old mid b s same = subst (Says b) (sym same) s
  says_on (x ∷ before) old mid b s (next, serves, rest) =
      says_on before next mid (opens b (kind_of x) x.answer) (says_step old next x.question x.answer b s serves) rest

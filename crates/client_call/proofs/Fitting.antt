-- Each answer fits its question.
use Rattle.std.proofs.Common.{◌≡◌, ℕ, Bool, true, List, Option, None, Some, refl}
use Rattle.smithy_context.specs.StandingLayers.{StandingLayers}
use Rattle.smithy_types.specs.declared.fault.Fault.{Fault}
use Rattle.smithy_types.specs.declared.http.Body.{Body}
use Rattle.smithy_types.specs.declared.http.Body.TheVariants as body
use Rattle.smithy_types.specs.declared.http.HttpRequest.{HttpRequest}
use Rattle.smithy_types.specs.declared.http.HttpResponse.{HttpResponse}
use Rattle.outside.specs.Calls.{OutsideCall}
use Rattle.outside.specs.declared.answers.Sent.{Sent}
use Rattle.outside.specs.declared.answers.Sent.TheVariants as sents
use Rattle.run_grammar.specs.Fits.{fits}
use Rattle.run_grammar.specs.declared.answer.Answer.{Answer}
use Rattle.run_grammar.specs.declared.answer.Answer.TheVariants as answers
use Rattle.run_grammar.specs.declared.kind.Abandonable.{Abandonable}
use Rattle.run_grammar.specs.declared.kind.Kind.TheVariants as kinds
use Rattle.run_grammar.specs.declared.kind.Role.{Role}
use Rattle.client_call.specs.declared.call.Call.{Call}
use Rattle.client_call.specs.declared.call.Call.TheVariants.{Idle, Sending, Arrived, Reading, Left}
use Rattle.client_call.specs.declared.reading.Reading.{Reading as OpenBody}
use Rattle.client_call.specs.declared.reading.Stop.{Stop}
use Rattle.client_call.specs.declared.reading.Stop.TheVariants as stops
use Rattle.client_call.specs.declared.sleeping.Sleeps.{Sleeps}
use Rattle.client_call.specs.declared.upload.Upload.{Upload}
use Rattle.client_call.specs.Loading.{loaded, loaded_body}
use Rattle.client_call.specs.Reading.{ClosesAs, Reads, ReadsOn}
use Rattle.client_call.specs.Sleeping.{Starts, Waits}
use Rattle.client_call.specs.Transmitting.{Pends, SentAs, StallsAs, Transmits}

pub starts_fit : (has : Bool) (role : Role) (nanos : Option ℕ) (old : Sleeps) (a : Answer) (new : Sleeps) (calls : List OutsideCall) →
    Starts has role nanos old a new calls → fits (kinds.Start role) a ≡ true
unfolding fits
starts_fit has role nanos old answers.Absent new calls h = refl
starts_fit has role nanos old answers.Started new calls h = refl
starts_fit has role nanos old _ new calls h = absurd h

pub waits_fit : (role : Role) (sleep : Option ℕ) (a : Answer) (calls : List OutsideCall) → Waits sleep a calls → fits (kinds.Wait role) a ≡ true
unfolding fits
waits_fit role None answers.Ready calls h = refl
waits_fit role (Some sleep) answers.Ready calls h = refl
waits_fit role (Some sleep) answers.Pending calls h = refl
waits_fit role _ _ calls h = absurd h

body_fits : (b : Body) → fits kinds.Load (loaded_body b) ≡ true
unfolding fits
body_fits (body.Bytes bytes) = refl
body_fits (body.Once bytes) = refl
body_fits body.Taken = refl

pub loaded_fits : (request : Option HttpRequest) → fits kinds.Load (loaded request) ≡ true
unfolding fits
loaded_fits None = refl
loaded_fits (Some request) = body_fits request.body

stalls_fit : (fault : Option Fault) (upload : Upload) (a : Answer) (new : Call) → StallsAs fault upload a new → fits kinds.Transmit a ≡ true
unfolding fits
stalls_fit None upload a new h = rw h.0 refl
stalls_fit (Some fault) upload a new h = rw h.0 refl

pends_fit : (sleeps : Bool) (upload : Option Upload) (a : Answer) (new : Call) (calls : List OutsideCall) → Pends sleeps upload a new calls → fits kinds.Transmit a ≡ true
unfolding fits
pends_fit sleeps None a new calls h = rw h.0 refl
pends_fit sleeps (Some upload) a new calls h = stalls_fit h.fault h.looked a new h.stalls

sent_fits : (sleeps : Bool) (upload : Option Upload) (sent : Sent) (a : Answer) (new : Call) (calls : List OutsideCall) → SentAs sleeps upload sent a new calls → fits kinds.Transmit a ≡ true
unfolding fits
sent_fits sleeps upload sents.Pending a new calls h = pends_fit sleeps upload a new calls h
sent_fits sleeps upload (sents.Response response) a new calls h = rw h.0 refl
sent_fits sleeps upload (sents.Failed kind text) a new calls h = rw h.0 refl

pub transmits_fit : (sleeps : Bool) (settings : StandingLayers) (request : Option HttpRequest) (old : Call) (a : Answer) (new : Call) (calls : List OutsideCall) →
    Transmits sleeps settings request old a new calls → fits kinds.Transmit a ≡ true
unfolding fits
transmits_fit sleeps settings None old a new calls h = rw h.0 refl
transmits_fit sleeps settings (Some request) old a new calls h = sent_fits sleeps h.upload h.sent a new h.looking h.sent_as

closes_fit : (stop : Stop) (end : OpenBody) (a : Answer) (new : Call) → ClosesAs stop end a new → fits kinds.Body a ≡ true
unfolding fits
closes_fit stops.Pending end a new h = rw h.0 refl
closes_fit stops.End end a new h = rw h.0 refl
closes_fit (stops.Failed text over) end a new h = rw h.0 refl
closes_fit stops.TooLong end a new h = rw h.0 refl

reads_on_fit : (sleeps : Bool) (old : Call) (a : Answer) (new : Call) (calls : List OutsideCall) → ReadsOn sleeps old a new calls → fits kinds.Body a ≡ true
unfolding fits
reads_on_fit sleeps (Reading r) a new calls h = closes_fit h.stop h.end a new h.closes
reads_on_fit sleeps Idle a new calls h = rw h.0 refl
reads_on_fit sleeps (Sending upload) a new calls h = rw h.0 refl
reads_on_fit sleeps Arrived a new calls h = rw h.0 refl
reads_on_fit sleeps Left a new calls h = rw h.0 refl

pub reads_fit : (sleeps : Bool) (settings : StandingLayers) (response : Option HttpResponse) (old : Call) (a : Answer) (new : Call) (calls : List OutsideCall) →
    Reads sleeps settings response old a new calls → fits kinds.Body a ≡ true
reads_fit sleeps settings response old a new calls h = reads_on_fit sleeps h.opened a new h.reading h.reads

pub abandoned_fits : (what : Abandonable) → fits (kinds.Abandon what) answers.Abandoned ≡ true
unfolding fits
abandoned_fits what = refl

pub parked_fits : fits kinds.Park answers.Parked ≡ true
unfolding fits
parked_fits = refl

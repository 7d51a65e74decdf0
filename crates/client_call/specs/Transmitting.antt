-- Transmit: which calls of the outside stand behind an answer, and what becomes of the call.
use Rattle.std.specs.Prelude.{◌≡◌, Bool, List, [], ◌∷◌, ◌++◌, Option, None, Some, Ok}
use Rattle.smithy_context.specs.StandingLayers.{StandingLayers}
use Rattle.smithy_types.specs.declared.fault.Fault.{Fault}
use Rattle.smithy_types.specs.declared.http.HttpRequest.{HttpRequest}
use Rattle.smithy_types.specs.declared.kinds.ConnectorKind.TheVariants.{Timeout}
use Rattle.outside.specs.Calls.{OutsideCall, Begin, Poll}
use Rattle.outside.specs.declared.answers.Sent.{Sent}
use Rattle.outside.specs.declared.answers.Sent.TheVariants as sents
use Rattle.stream_guard.specs.declared.options.MinimumThroughputBodyOptions.{MinimumThroughputBodyOptions}
use Rattle.run_grammar.specs.declared.answer.Answer.{Answer}
use Rattle.run_grammar.specs.declared.answer.Answer.TheVariants as answers
use Rattle.client_call.specs.declared.call.Call.{Call}
use Rattle.client_call.specs.declared.call.Call.TheVariants.{Idle, Sending, Arrived, Left}
use Rattle.client_call.specs.declared.upload.Upload.{Upload}
use Rattle.client_call.specs.Ending.{quieting}
use Rattle.client_call.specs.Protection.{standing_stall, upload_marked, upload_options}
use Rattle.client_call.specs.Uploading.{Looks, Watches, body_bytes}

-- the body is read, and the upload watched, where there are options
abbrev pub WatchesMaybe : Option MinimumThroughputBodyOptions → HttpRequest → Option Upload → List OutsideCall → Type 0
WatchesMaybe None request upload calls = (upload ≡ None) × (calls ≡ [])
WatchesMaybe (Some options) request None calls = ⊥
WatchesMaybe (Some options) request (Some upload) calls = Watches options (body_bytes request.body) upload calls

-- the guards of a body that is open give their sleep up, the upload is watched where it is set, and the request is sent
pub record BeginsAnew (settings : StandingLayers) (request : HttpRequest) (old : Call) (upload : Option Upload)
    (calls : List OutsideCall) : Type 0 where
  pub watching : List OutsideCall
  pub watches : WatchesMaybe (upload_options (upload_marked settings) (standing_stall settings)) request upload watching
  pub calls_are : calls ≡ quieting old ++ (watching ++ Begin request settings (Ok tt) ∷ [])

-- a call that isn't under way is begun; the upload is as it was watched
abbrev pub Begins : StandingLayers → HttpRequest → Call → Option Upload → List OutsideCall → Type 0
Begins settings request (Sending watched) upload calls = (upload ≡ watched) × (calls ≡ [])
Begins settings request old upload calls = BeginsAnew settings request old upload calls

-- what a look at the upload makes of the call: one that stalls is a connector's timeout, and leaves it open
abbrev pub StallsAs : Option Fault → Upload → Answer → Call → Type 0
StallsAs None upload a new = (a ≡ answers.Pending) × (new ≡ Sending (Some upload))
StallsAs (Some fault) upload a new = (a ≡ answers.ConnectorFailed Timeout fault.text) × (new ≡ Left)

-- a look at the upload, behind a poll that was pending
pub record PendsWatched (sleeps : Bool) (upload : Upload) (a : Answer) (new : Call)
    (calls : List OutsideCall) : Type 0 where
  pub fault : Option Fault
  pub looked : Upload
  pub looks : Looks sleeps upload fault looked calls
  pub stalls : StallsAs fault looked a new

-- there is no response yet
abbrev pub Pends : Bool → Option Upload → Answer → Call → List OutsideCall → Type 0
Pends sleeps None a new calls = (a ≡ answers.Pending) × (new ≡ Sending None) × (calls ≡ [])
Pends sleeps (Some upload) a new calls = PendsWatched sleeps upload a new calls

-- the answer is the connector's
abbrev pub SentAs : Bool → Option Upload → Sent → Answer → Call → List OutsideCall → Type 0
SentAs sleeps upload sents.Pending a new calls = Pends sleeps upload a new calls
SentAs sleeps upload (sents.Response response) a new calls =
    (a ≡ answers.Response response) × (new ≡ Arrived) × (calls ≡ [])
SentAs sleeps upload (sents.Failed kind text) a new calls =
    (a ≡ answers.ConnectorFailed kind text) × (new ≡ Idle) × (calls ≡ [])

-- the connector is asked once, behind the beginning of the call where it isn't under way
pub record Sends (sleeps : Bool) (settings : StandingLayers) (request : HttpRequest) (old : Call) (a : Answer)
    (new : Call) (calls : List OutsideCall) : Type 0 where
  pub upload : Option Upload
  pub beginning : List OutsideCall
  pub begins : Begins settings request old upload beginning
  pub sent : Sent
  pub looking : List OutsideCall
  pub sent_as : SentAs sleeps upload sent a new looking
  pub calls_are : calls ≡ beginning ++ Poll (Ok sent) ∷ looking

-- an ask, which is Absent without a request
abbrev pub Transmits : Bool → StandingLayers → Option HttpRequest → Call → Answer → Call → List OutsideCall → Type 0
Transmits sleeps settings None old a new calls = (a ≡ answers.Absent) × (new ≡ old) × (calls ≡ [])
Transmits sleeps settings (Some request) old a new calls = Sends sleeps settings request old a new calls

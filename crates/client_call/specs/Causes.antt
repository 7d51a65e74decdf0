-- Why an answer comes, in the words of what was asked of the outside.
use Rattle.std.specs.Prelude.{◌≡◌, ◌≢◌, ◌↔◌, ◌⊎◌, ℕ, Bool, true, false, List, [], ◌∷◌, ◌++◌, suc, codes, Option, None}
use Rattle.std.specs.Prelude.{Some, Result, Ok}
use Rattle.smithy_context.specs.StandingLayers.{StandingLayers}
use Rattle.smithy_types.specs.declared.http.Body.TheVariants.{Taken}
use Rattle.smithy_types.specs.declared.http.HttpRequest.{HttpRequest}
use Rattle.smithy_types.specs.declared.http.HttpResponse.{HttpResponse}
use Rattle.smithy_types.specs.declared.kinds.ConnectorKind.{ConnectorKind}
use Rattle.smithy_types.specs.declared.memory.OutOfMemory.{OutOfMemory}
use Rattle.smithy_types.specs.declared.timers.TimersCall.TheVariants.{Ready}
use Rattle.outside.specs.Calls.{OutsideCall, OfTimers, Frame, Poll}
use Rattle.smithy_types.specs.declared.polled.Polled.{Polled}
use Rattle.smithy_types.specs.declared.polled.Polled.TheVariants as polled
use Rattle.outside.specs.declared.answers.Sent.TheVariants as sents
use Rattle.stream_guard.specs.Logs.{Keeps}
use Rattle.stream_guard.specs.Report.{Came}
use Rattle.body_guard.specs.Length.{HasReceived}
use Rattle.run_grammar.specs.declared.answer.Answer.{Answer}
use Rattle.run_grammar.specs.declared.answer.Answer.TheVariants as answers
use Rattle.run_grammar.specs.declared.kind.Role.{Role}
use Rattle.client_call.specs.declared.call.Call.{Call}
use Rattle.client_call.specs.declared.call.Call.TheVariants.{Reading, Sending}
use Rattle.client_call.specs.declared.sleeping.Sleeps.{Sleeps}
use Rattle.client_call.specs.declared.upload.Upload.{Upload}
use Rattle.client_call.specs.Ending.{AtRest, ending_calls}
use Rattle.client_call.specs.Guarding.{LengthGuard}
use Rattle.client_call.specs.Loading.{loaded}
use Rattle.client_call.specs.Reading.{Reads}
use Rattle.client_call.specs.Sleeping.{Starts, Waits}
use Rattle.client_call.specs.Transmitting.{Transmits}

-- this call is among these
abbrev pub WasMade : OutsideCall → List OutsideCall → Type 0
WasMade call calls = (before : List OutsideCall) × (after : List OutsideCall) × (calls ≡ before ++ call ∷ after)

-- a Start is Absent exactly without sleeps
abbrev pub AbsentWithoutSleeps : Type 0
AbsentWithoutSleeps =
    (has : Bool) (role : Role) (nanos : Option ℕ) (old : Sleeps) (a : Answer) (new : Sleeps)
    (calls : List OutsideCall) →
    Starts has role nanos old a new calls → (a ≡ answers.Absent) ↔ (has ≡ false)

-- a Wait is pending exactly where its sleep was asked and wasn't over
abbrev pub PendingWhileItRuns : Type 0
PendingWhileItRuns = (sleep : Option ℕ) (a : Answer) (calls : List OutsideCall) →
    Waits sleep a calls → (a ≡ answers.Pending) ↔ ((number : ℕ) × (calls ≡ OfTimers (Ready number false) ∷ []))

-- a Load fails exactly where the body's bytes are gone
abbrev pub FailsWhereTaken : Type 0
FailsWhereTaken =
    (request : HttpRequest) → (loaded (Some request) ≡ answers.Failed (codes "body taken")) ↔ (request.body ≡ Taken)

-- a Load is never pending
abbrev pub NeverPending : Type 0
NeverPending = (request : Option HttpRequest) → loaded request ≢ answers.Pending

-- a Transmit is pending only where the connector had no response in this ask
abbrev pub PendsWithThePoll : Type 0
PendsWithThePoll =
    (sleeps : Bool) (settings : StandingLayers) (request : Option HttpRequest) (old : Call) (a : Answer) (new : Call)
    (calls : List OutsideCall) →
    Transmits sleeps settings request old a new calls → a ≡ answers.Pending → WasMade (Poll (Ok sents.Pending)) calls

-- the upload that is watched is over, and its log kept all of it
abbrev pub IsRead : Option Upload → Type 0
IsRead None = Unit {0}
IsRead (Some upload) = (upload.log.complete ≡ true) × ((came : List Came) × Keeps upload.log came)

-- the upload of a call that is under way is over
abbrev pub IsUploaded : Call → Type 0
IsUploaded (Sending upload) = IsRead upload
IsUploaded _ = Unit {0}

-- what an ask of Transmit tells
pub record SendsWell (a : Answer) (new : Call) (calls : List OutsideCall) : Type 0 where
  -- it fails only where the connector did in this ask, as the connector said
  pub failed : (kind : ConnectorKind) (text : List ℕ) → a ≡ answers.ConnectorFailed kind text
      → WasMade (Poll (Ok (sents.Failed kind text))) calls
  -- the upload was read before the request was sent
  pub uploaded : IsUploaded new

-- an upload that is watched never fails a Transmit
abbrev pub UploadsNeverStall : Type 0
UploadsNeverStall =
    (sleeps : Bool) (settings : StandingLayers) (request : Option HttpRequest) (old : Call) (a : Answer) (new : Call)
    (calls : List OutsideCall) →
    Transmits sleeps settings request old a new calls → IsUploaded old → SendsWell a new calls

-- where nothing is open, nothing is ended
abbrev pub NothingToEnd : Type 0
NothingToEnd = (sleeps : Sleeps) (call : Call) → AtRest sleeps call → ending_calls sleeps call ≡ []

-- the bytes of a frame of data, and none of any other answer
abbrev pub answer_data : Result Polled OutOfMemory → List ℕ
answer_data (Ok (polled.Data bytes)) = bytes
answer_data _ = []

-- the bytes of data that a call gave
abbrev pub call_data : OutsideCall → List ℕ
call_data (Frame answer) = answer_data answer
call_data _ = []

-- the bytes of data that these calls gave, in order
abbrev pub data_of : List OutsideCall → List ℕ
data_of [] = []
data_of (call ∷ calls) = call_data call ++ data_of calls

-- one more where the call asked for a frame
abbrev pub with_frame : OutsideCall → ℕ → ℕ
with_frame (Frame answer) count = suc count
with_frame _ count = count

-- how many frames were asked for
abbrev pub frames_in : List OutsideCall → ℕ
frames_in [] = 0
frames_in (call ∷ calls) = with_frame call (frames_in calls)

-- the bytes of the open body so far
abbrev pub bytes_of : Call → List ℕ
bytes_of (Reading reading) = reading.bytes
bytes_of _ = []

-- a guard of a length has counted some bytes
abbrev pub Counted : Option LengthGuard → Type 0
Counted None = Unit {0}
Counted (Some guard) = (count : ℕ) × HasReceived guard count

-- the guard of the open body's length has counted some bytes
abbrev pub IsCounted : Call → Type 0
IsCounted (Reading reading) = Counted reading.guards.length
IsCounted _ = Unit {0}

-- what an ask of a body tells of its bytes and its frames
pub record ReadsAll (old : Call) (a : Answer) (new : Call) (calls : List OutsideCall) : Type 0 where
  -- it is Read with the bytes of all asks, in order, where the body was at its end
  pub read : (blob : List ℕ) → a ≡ answers.Read blob
      → (blob ≡ bytes_of old ++ data_of calls) × WasMade (Frame (Ok polled.End)) calls
  -- it is pending where there was no frame, or behind 64 frames, and loses no byte
  pub pending : a ≡ answers.Pending → (bytes_of new ≡ bytes_of old ++ data_of calls)
      × (WasMade (Frame (Ok polled.Pending)) calls ⊎ (frames_in calls ≡ 64))
  -- the guard goes on counting
  pub counted : IsCounted new

-- a body is read whole
abbrev pub BodiesAreWhole : Type 0
BodiesAreWhole =
    (sleeps : Bool) (settings : StandingLayers) (response : Option HttpResponse) (old : Call) (a : Answer) (new : Call)
    (calls : List OutsideCall) →
    Reads sleeps settings response old a new calls → IsCounted old → ReadsAll old a new calls

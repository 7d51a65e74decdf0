-- Body: which frames stand behind an answer, and what becomes of the open body.
use Rattle.std.specs.Prelude.{◌≡◌, ◌⊎◌, ◌<◌, ℕ, Bool, if◌then◌else◌, List, [], ◌∷◌, ◌++◌, length, codes, Option, None}
use Rattle.std.specs.Prelude.{Some, Ok}
use Rattle.smithy_context.specs.StandingLayers.{StandingLayers}
use Rattle.smithy_types.specs.Chain.{Chained}
use Rattle.smithy_types.specs.declared.http.HttpResponse.{HttpResponse}
use Rattle.outside.specs.Calls.{OutsideCall, Frame}
use Rattle.smithy_types.specs.Frames.{ends}
use Rattle.smithy_types.specs.declared.polled.Polled.{Polled}
use Rattle.run_grammar.specs.declared.answer.Answer.{Answer}
use Rattle.run_grammar.specs.declared.answer.Answer.TheVariants as answers
use Rattle.client_call.specs.declared.call.Call.{Call}
use Rattle.client_call.specs.declared.call.Call.TheVariants.{Idle, Arrived, Reading, Left}
use Rattle.client_call.specs.declared.reading.Reading.{Reading as OpenBody}
use Rattle.client_call.specs.declared.reading.Stop.{Stop}
use Rattle.client_call.specs.declared.reading.Stop.TheVariants as stops
use Rattle.client_call.specs.Frames.{gathered, stop_of}
use Rattle.client_call.specs.Guarding.{Passes, SetsUp, stopping}

-- nothing was read, and the guards are those that are set
pub record BeginsReading (settings : StandingLayers) (response : Option HttpResponse) (made : OpenBody)
    (calls : List OutsideCall) : Type 0 where
  pub bytes : made.bytes ≡ []
  pub guards : SetsUp settings response made.guards calls

-- a body that came is opened, and any other call stays as it is
abbrev pub Opens : StandingLayers → Option HttpResponse → Call → Call → List OutsideCall → Type 0
Opens settings response Arrived new calls =
    (made : OpenBody) × (new ≡ Reading made) × BeginsReading settings response made calls
Opens settings response old new calls = (new ≡ old) × (calls ≡ [])

-- one frame, which the guards pass, and how the ask stops with it
pub record Asks (sleeps : Bool) (old : OpenBody) (stop : Option Stop) (new : OpenBody)
    (calls : List OutsideCall) : Type 0 where
  pub frame : Polled
  pub passed : Polled
  pub judging : List OutsideCall
  pub passes : Passes sleeps old.guards frame passed new.guards judging
  pub stop_is : stop ≡ stop_of old.bytes (ends frame) passed
  pub bytes_are : new.bytes ≡ gathered old.bytes passed
  pub calls_are : calls ≡ Frame (Ok frame) ∷ judging

-- a frame with which the ask goes on, as the calls behind it
abbrev pub GoesOn : Bool → OpenBody → List OutsideCall → OpenBody → Type 0
GoesOn sleeps old calls new = Asks sleeps old None new calls

-- the calls behind these frames
abbrev pub calls_of : List (List OutsideCall) → List OutsideCall
calls_of [] = []
calls_of (calls ∷ frames) = calls ++ calls_of frames

-- behind so many frames the ask stops: with a further frame, or since 64 are as many as it may have
abbrev pub StopsBehind : Bool → ℕ → OpenBody → Stop → OpenBody → List OutsideCall → Type 0
StopsBehind sleeps count old stop new calls =
    ((count < 64) × Asks sleeps old (Some stop) new calls)
    ⊎ ((count ≡ 64) × (stop ≡ stops.Pending) × (new ≡ old) × (calls ≡ []))

-- the frames of one ask
pub record Runs (sleeps : Bool) (old : OpenBody) (stop : Stop) (new : OpenBody)
    (calls : List OutsideCall) : Type 0 where
  pub frames : List (List OutsideCall)
  pub before : OpenBody
  pub go_on : Chained (GoesOn sleeps) old frames before
  pub last : List OutsideCall
  pub stops : StopsBehind sleeps (length frames) before stop new last
  pub calls_are : calls ≡ calls_of frames ++ last

-- a body that failed, where it is over outside too or still open there
abbrev pub failed_call : Bool → Call
failed_call over = if over then Idle else Left

-- what a stop makes of the call; a body that is too long leaves it open
abbrev pub ClosesAs : Stop → OpenBody → Answer → Call → Type 0
ClosesAs stops.Pending end a new = (a ≡ answers.Pending) × (new ≡ Reading end)
ClosesAs stops.End end a new = (a ≡ answers.Read end.bytes) × (new ≡ Idle)
ClosesAs (stops.Failed text over) end a new = (a ≡ answers.Failed text) × (new ≡ failed_call over)
ClosesAs stops.TooLong end a new = (a ≡ answers.Failed (codes "body over 16384 bytes")) × (new ≡ Left)

-- the guards' sleep is given up with the body
abbrev pub closing : Stop → OpenBody → List OutsideCall
closing stops.Pending end = []
closing _ end = stopping end.guards

-- an ask of an open body
pub record ReadsBody (sleeps : Bool) (old : OpenBody) (a : Answer) (new : Call)
    (calls : List OutsideCall) : Type 0 where
  pub stop : Stop
  pub end : OpenBody
  pub running : List OutsideCall
  pub runs : Runs sleeps old stop end running
  pub closes : ClosesAs stop end a new
  pub calls_are : calls ≡ running ++ closing stop end

-- an ask of a body that was opened, which is Absent where none is open
abbrev pub ReadsOn : Bool → Call → Answer → Call → List OutsideCall → Type 0
ReadsOn sleeps (Reading open_body) a new calls = ReadsBody sleeps open_body a new calls
ReadsOn sleeps old a new calls = (a ≡ answers.Absent) × (new ≡ old) × (calls ≡ [])

-- an ask: the body is opened where it just came, and read on
pub record Reads (sleeps : Bool) (settings : StandingLayers) (response : Option HttpResponse) (old : Call) (a : Answer)
    (new : Call) (calls : List OutsideCall) : Type 0 where
  pub opened : Call
  pub opening : List OutsideCall
  pub opens : Opens settings response old opened opening
  pub reading : List OutsideCall
  pub reads : ReadsOn sleeps opened a new reading
  pub calls_are : calls ≡ opening ++ reading

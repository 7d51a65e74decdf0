-- The upload of a request, as it is watched.
use Rattle.std.specs.Prelude.{◌≡◌, ℕ, ◌/◌, Bool, true, List, [], ◌∷◌, ◌++◌, length, map, ◌==◌, Option, None, Result, Ok}
use Rattle.smithy_types.specs.declared.fault.Fault.{Fault}
use Rattle.smithy_types.specs.declared.http.Body.{Body}
use Rattle.smithy_types.specs.declared.http.Body.TheVariants.{Bytes, Once, Taken}
use Rattle.smithy_types.specs.declared.memory.OutOfMemory.{OutOfMemory}
use Rattle.smithy_types.specs.declared.timers.TimersCall.{TimersCall}
use Rattle.smithy_types.specs.declared.timers.TimersCall.TheVariants.{Now}
use Rattle.outside.specs.Calls.{OutsideCall, OfTimers}
use Rattle.stream_guard.specs.Logs.{Keeps}
use Rattle.stream_guard.specs.Report.{Came, Transferred}
use Rattle.stream_guard.specs.declared.options.MinimumThroughputBodyOptions.{MinimumThroughputBodyOptions}
use Rattle.body_guard.specs.Upload.{Checks}
use Rattle.smithy_types.specs.declared.polled.Polled.{Polled}
use Rattle.smithy_types.specs.declared.polled.Polled.TheVariants.{Data, End}
use Rattle.client_call.specs.declared.upload.Upload.{Upload}
use Rattle.client_call.specs.declared.whole_body.WholeBody.{WholeBody}

-- the bytes of a request's body; those that are gone are none
abbrev pub body_bytes : Body → List ℕ
body_bytes (Bytes bytes) = bytes
body_bytes (Once bytes) = bytes
body_bytes Taken = []

-- all bytes are one frame, and no bytes are none
abbrev pub whole_frame : List ℕ → Polled
whole_frame [] = End
whole_frame (b ∷ bs) = Data (b ∷ bs)

-- a poll of a whole body: its frame, behind which nothing is left
abbrev pub PollsWhole : WholeBody → Result Polled OutOfMemory → WholeBody → Type 0
PollsWhole old answer new = (answer ≡ Ok (whole_frame old.bytes)) × (new ≡ record { bytes = [] })

-- a whole body is at its end where nothing is left
abbrev pub at_whole_end : WholeBody → Bool
at_whole_end body = length body.bytes == 0

-- what comes of a body that is read at this moment
abbrev pub came_of : List ℕ → ℕ → List Came
came_of [] now = []
came_of (b ∷ bs) now = Transferred now (length (b ∷ bs)) ∷ []

-- the moment of what comes is asked for
abbrev pub came_calls : List ℕ → ℕ → List TimersCall
came_calls [] now = []
came_calls (b ∷ bs) now = Now now ∷ []

-- a body of these bytes was read to its end, and is watched from the start on
pub record Watches (options : MinimumThroughputBodyOptions) (bytes : List ℕ) (made : Upload)
    (calls : List OutsideCall) : Type 0 where
  pub start : ℕ
  pub now : ℕ
  pub started : made.log.start ≡ start
  pub resolution : made.log.resolution ≡ options.check_window / 10
  pub complete : made.log.complete ≡ true
  pub kept : Keeps made.log (came_of bytes now)
  pub check : made.check.grace ≡ record { options = options; sleep = None }
  pub calls_are : calls ≡ map OfTimers (Now start ∷ came_calls bytes now)

-- a look at the upload
pub record Looks (sleeps : Bool) (old : Upload) (fault : Option Fault) (new : Upload)
    (calls : List OutsideCall) : Type 0 where
  pub checking : List TimersCall
  pub checks : Checks sleeps old.check old.log (Ok fault) new.check new.log checking
  pub calls_are : calls ≡ map OfTimers checking

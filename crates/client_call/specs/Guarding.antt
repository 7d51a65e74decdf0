-- The guards that a response's body is read through: which are set up, and what each makes of a frame.
use Rattle.std.specs.Prelude.{◌≡◌, ℕ, Bool, true, false, List, [], map, Option, None, Some, Result, Ok, Err}
use Rattle.smithy_context.specs.StandingLayers.{StandingLayers}
use Rattle.smithy_types.specs.declared.http.HttpResponse.{HttpResponse}
use Rattle.smithy_types.specs.declared.timers.TimersCall.{TimersCall}
use Rattle.outside.specs.Calls.{OutsideCall, OfTimers}
use Rattle.stream_guard.specs.declared.options.MinimumThroughputBodyOptions.{MinimumThroughputBodyOptions}
use Rattle.body_guard.specs.Declaring.{DeclaresLength, lengths}
use Rattle.body_guard.specs.Download.{Judges, Starts}
use Rattle.body_guard.specs.Grace.{give_up_calls}
use Rattle.body_guard.specs.Length.{Enforces, HasReceived}
use Rattle.body_guard.specs.declared.content_length.ContentLengthEnforcingBody.{ContentLengthEnforcingBody}
use Rattle.body_guard.specs.declared.download.MinimumThroughputDownloadBody.{MinimumThroughputDownloadBody}
use Rattle.body_guard.specs.declared.length.LengthFault.{LengthFault}
use Rattle.body_guard.specs.declared.polled.NoBody.{NoBody}
use Rattle.smithy_types.specs.declared.polled.Polled.{Polled}
use Rattle.client_call.specs.declared.guards.Guards.{Guards}
use Rattle.client_call.specs.Protection.{download_options, enforces_length, standing_stall}

-- the guard that holds a body to its declared length, and is handed the frames
abbrev pub LengthGuard : Type 0
LengthGuard = ContentLengthEnforcingBody NoBody

-- the guard that watches whether a body stalls, and is handed the frames
abbrev pub ThroughputGuard : Type 0
ThroughputGuard = MinimumThroughputDownloadBody NoBody

-- the guard by what the response declares: a length, and else there is none
abbrev pub HoldsTo : Result (Option ℕ) LengthFault → Option LengthGuard → Type 0
HoldsTo (Ok (Some length)) (Some made) = (made.expected_length ≡ length) × HasReceived made 0
HoldsTo (Ok (Some length)) None = ⊥
HoldsTo (Ok None) made = made ≡ None
HoldsTo (Err fault) made = made ≡ None

-- a length is held to where it is enforced and the response declares one
abbrev pub GuardsLength : Bool → Option HttpResponse → Option LengthGuard → Type 0
GuardsLength true (Some response) made =
    (declared : Result (Option ℕ) LengthFault) × DeclaresLength (lengths response.headers) declared
    × HoldsTo declared made
GuardsLength true None made = made ≡ None
GuardsLength false response made = made ≡ None

-- a body is watched from now on where there are options
abbrev pub GuardsThroughput : Option MinimumThroughputBodyOptions → Option ThroughputGuard → List OutsideCall → Type 0
GuardsThroughput None made calls = (made ≡ None) × (calls ≡ [])
GuardsThroughput (Some options) None calls = ⊥
GuardsThroughput (Some options) (Some made) calls =
    (body : NoBody) × (starting : List TimersCall) × Starts body options made starting × (calls ≡ map OfTimers starting)

-- the guards that these settings set for this response
pub record SetsUp (settings : StandingLayers) (response : Option HttpResponse) (made : Guards)
    (calls : List OutsideCall) : Type 0 where
  pub length : GuardsLength (enforces_length settings) response made.length
  pub throughput : GuardsThroughput (download_options (standing_stall settings)) made.throughput calls

-- what the guard of the length makes of a frame
abbrev pub LengthPasses : Option LengthGuard → Polled → Polled → Option LengthGuard → Type 0
LengthPasses None frame passed new = (passed ≡ frame) × (new ≡ None)
LengthPasses (Some old) frame passed None = ⊥
LengthPasses (Some old) frame passed (Some new) = Enforces old frame (Ok passed) new

-- what the guard of the throughput makes of a frame, where there are sleeps or none
abbrev pub ThroughputPasses : Bool → Option ThroughputGuard → Polled → Polled → Option ThroughputGuard
    → List OutsideCall → Type 0
ThroughputPasses sleeps None frame passed new calls = (passed ≡ frame) × (new ≡ None) × (calls ≡ [])
ThroughputPasses sleeps (Some old) frame passed None calls = ⊥
ThroughputPasses sleeps (Some old) frame passed (Some new) calls =
    (judging : List TimersCall) × Judges sleeps old frame (Ok passed) new judging × (calls ≡ map OfTimers judging)

-- what the guards make of a frame: that of the length first
pub record Passes (sleeps : Bool) (old : Guards) (frame passed : Polled) (new : Guards)
    (calls : List OutsideCall) : Type 0 where
  pub enforced : Polled
  pub length : LengthPasses old.length frame enforced new.length
  pub throughput : ThroughputPasses sleeps old.throughput enforced passed new.throughput calls

-- an open sleep of a violation is given up
abbrev pub stopping_guard : Option ThroughputGuard → List OutsideCall
stopping_guard None = []
stopping_guard (Some guard) = map OfTimers (give_up_calls guard.grace.sleep)

-- what is given up when the guards are left
abbrev pub stopping : Guards → List OutsideCall
stopping guards = stopping_guard guards.throughput

-- the guard without an open sleep
abbrev pub stopped_guard : Option ThroughputGuard → Option ThroughputGuard
stopped_guard None = None
stopped_guard (Some guard) = Some (record guard { grace = record guard.grace { sleep = None } })

-- the guards without an open sleep
abbrev pub stopped : Guards → Guards
stopped guards = record guards { throughput = stopped_guard guards.throughput }

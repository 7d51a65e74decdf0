-- What a body's answer adds to an upload's log.
use Rattle.std.proofs.Common.{◌≡◌, List, [], false, ap, ◌∙◌, refl, Bool}
use Rattle.std.proofs.Common.{◌||◌}
use Rattle.smithy_types.specs.declared.timers.TimersCall.{TimersCall}
use Rattle.stream_guard.specs.Logs.{Log, Keeps}
use Rattle.stream_guard.specs.Report.{Came}
use Rattle.body_guard.specs.Events.{with_event}
use Rattle.body_guard.specs.Upload.{Notes, NotesEvent, completes, is_event}
use Rattle.smithy_types.specs.declared.polled.Polled.{Polled}
use Rattle.smithy_types.specs.declared.polled.Polled.TheVariants.{Pending, Data, Trailers, End, Failed}

-- what is no event adds nothing
pub no_event : (log : Log) (answer : Polled) → is_event answer ≡ false → NotesEvent log answer log []
no_event log Pending e = absurd (cc)
no_event log (Data bytes) e = absurd (cc)
no_event log Trailers e = record { now = 0; settings = record { start = refl; resolution = refl; complete = refl }; kept = λ before keeps. keeps; calls_are = refl }
no_event log End e = record { now = 0; settings = record { start = refl; resolution = refl; complete = refl }; kept = λ before keeps. keeps; calls_are = refl }
no_event log (Failed fault) e = record { now = 0; settings = record { start = refl; resolution = refl; complete = refl }; kept = λ before keeps. keeps; calls_are = refl }

-- an event, and then that the upload is over or not
pub noted : (at_end : Bool) (old mid new : Log) (answer : Polled) (calls : List TimersCall) → NotesEvent old answer mid calls
    → new.start ≡ mid.start → new.resolution ≡ mid.resolution → new.complete ≡ (mid.complete || completes at_end answer)
    → ((came : List Came) → Keeps mid came → Keeps new came) → Notes at_end old answer new calls
noted at_end old mid new answer calls event start resolution complete kept = record {
  now = event.now;
  start = start ∙ event.settings.start;
  resolution = resolution ∙ event.settings.resolution;
  complete = complete ∙ ap (λ b. b || completes at_end answer) event.settings.complete;
  kept = λ before keeps. kept (with_event before event.now answer) (event.kept before keeps);
  calls_are = event.calls_are;
}

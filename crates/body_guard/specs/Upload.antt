-- Uploads whose stall is seen while the response is waited for.
use Rattle.std.specs.Prelude.{◌≡◌, ℕ, Bool, true, false, ◌||◌, ◌&&◌, if◌then◌else◌, is_some, List, [], ◌∷◌, ◌++◌}
use Rattle.std.specs.Prelude.{Option, None, Some, Result, Ok, Err}
use Rattle.smithy_context.specs.Settings.{loaded}
use Rattle.smithy_context.specs.StandingLayers.{StandingLayers}
use Rattle.smithy_context.specs.declared.setting.SettingKey.TheVariants as keys
use Rattle.smithy_types.specs.declared.config.StalledStreamProtectionConfig.{StalledStreamProtectionConfig}
use Rattle.smithy_types.specs.declared.fault.Fault.{Fault}
use Rattle.smithy_types.specs.declared.fault.FaultKind.TheVariants.{Connector}
use Rattle.smithy_types.specs.declared.kinds.ConnectorKind.TheVariants.{Timeout}
use Rattle.smithy_types.specs.declared.memory.OutOfMemory.{OutOfMemory}
use Rattle.smithy_types.specs.declared.timers.TimersCall.{TimersCall}
use Rattle.smithy_types.specs.declared.timers.TimersCall.TheVariants.{Now}
use Rattle.stream_guard.specs.Logs.{Log, Keeps, SameSettings}
use Rattle.stream_guard.specs.Options.{default_options}
use Rattle.stream_guard.specs.Report.{Came, Looked, report_of}
use Rattle.stream_guard.specs.declared.report.ThroughputReport.{ThroughputReport}
use Rattle.body_guard.specs.Events.{with_event}
use Rattle.body_guard.specs.Grace.{Grants}
use Rattle.body_guard.specs.Rates.{upload_rate, violation}
use Rattle.body_guard.specs.Protection.{standing_stall}
use Rattle.body_guard.specs.declared.grace.GraceAnswer.{GraceAnswer}
use Rattle.body_guard.specs.declared.grace.GraceAnswer.TheVariants.{InTime, NoSleep, Over}
use Rattle.smithy_types.specs.declared.polled.Polled.{Polled}
use Rattle.smithy_types.specs.declared.polled.Polled.TheVariants.{Pending, Data, End, Failed}
use Rattle.body_guard.specs.declared.upload.MaybeUploadThroughputCheck.{MaybeUploadThroughputCheck}
use Rattle.body_guard.specs.declared.upload.MaybeUploadThroughputCheck.TheVariants.{Checked, Direct}
use Rattle.body_guard.specs.declared.upload.ThroughputReadingBody.{ThroughputReadingBody}
use Rattle.body_guard.specs.declared.upload.UploadThroughputCheck.{UploadThroughputCheck}

-- whether there are bytes, or nothing yet
abbrev pub is_event : Polled → Bool
is_event (Data bytes) = true
is_event Pending = true
is_event _ = false

-- whether nothing comes behind an answer of a body that says whether it is at its end
abbrev pub completes : Bool → Polled → Bool
completes at_end (Data bytes) = at_end
completes at_end End = true
completes at_end (Failed fault) = true
completes at_end _ = false

-- the moment of an event is asked for
abbrev pub event_calls : Bool → ℕ → List TimersCall
event_calls true now = Now now ∷ []
event_calls false now = []

-- the event of an answer is noted, with its moment, where it is one
pub record NotesEvent (old : Log) (answer : Polled) (new : Log) (calls : List TimersCall) : Type 0 where
  pub now : ℕ
  pub settings : SameSettings old new
  pub kept : (before : List Came) → Keeps old before → Keeps new (with_event before now answer)
  pub calls_are : calls ≡ event_calls (is_event answer) now

-- an answer is noted, and that nothing comes behind it, where that is so
pub record Notes (at_end : Bool) (old : Log) (answer : Polled) (new : Log) (calls : List TimersCall) : Type 0 where
  pub now : ℕ
  pub start : new.start ≡ old.start
  pub resolution : new.resolution ≡ old.resolution
  pub complete : new.complete ≡ (old.complete || completes at_end answer)
  pub kept : (before : List Came) → Keeps old before → Keeps new (with_event before now answer)
  pub calls_are : calls ≡ event_calls (is_event answer) now

-- an answer of the inner body is handed on as it is, and noted
abbrev pub FollowsNoted : Bool → Result Polled OutOfMemory → Log → Result Polled OutOfMemory → Log → List TimersCall →
    Type 0
FollowsNoted at_end (Ok inner) old answer new calls = (answer ≡ Ok inner) × Notes at_end old inner new calls
FollowsNoted at_end (Err e) old answer new calls = (answer ≡ Err e) × (new ≡ old) × (calls ≡ [])

module _ {B : Type 0} where
  -- one poll: the inner body is polled, and then says whether it is at its end
  pub record PollsNoted (polls : B → Result Polled OutOfMemory → B → Type 0) (at_end : B → Bool)
      (old : ThroughputReadingBody B) (upload_before : Log) (answer : Result Polled OutOfMemory)
      (new : ThroughputReadingBody B) (upload_after : Log) (calls : List TimersCall) : Type 0 where
    pub inner : Result Polled OutOfMemory
    pub polled : polls old.body inner new.body
    pub follows : FollowsNoted (at_end new.body) inner upload_before answer upload_after calls

-- what is answered of an upload: a connector's timeout where it stalled for too long
abbrev pub upload_answer : Result GraceAnswer OutOfMemory → Result (Option Fault) OutOfMemory
upload_answer (Ok InTime) = Ok None
upload_answer (Ok NoSleep) = Ok None
upload_answer (Ok (Over text)) = Ok (Some (record { kind = Connector Timeout; text = text }))
upload_answer (Err e) = Err e

-- a look at this moment, and what it makes of the upload
pub record Checks (sleeps : Bool) (old : UploadThroughputCheck) (upload_before : Log)
    (answer : Result (Option Fault) OutOfMemory) (new : UploadThroughputCheck) (upload_after : Log)
    (calls : List TimersCall) : Type 0 where
  pub now : ℕ
  pub report : ThroughputReport
  pub settings : SameSettings upload_before upload_after
  pub kept : (before : List Came) → Keeps upload_before before → Keeps upload_after (before ++ Looked now ∷ [])
  pub reported : (before : List Came) → Keeps upload_before before →
      report ≡ report_of upload_before.start upload_before.resolution upload_before.complete before now
  pub said : Result GraceAnswer OutOfMemory
  pub granting : List TimersCall
  pub grants : Grants sleeps (violation old.grace.options.minimum_throughput (upload_rate report)) old.grace said
      new.grace granting
  pub answered : answer ≡ upload_answer said
  pub calls_are : calls ≡ Now now ∷ granting

-- where the upload isn't looked at nothing is done
abbrev pub ChecksMaybe : Bool → MaybeUploadThroughputCheck → Log → Result (Option Fault) OutOfMemory →
    MaybeUploadThroughputCheck → Log → List TimersCall → Type 0
ChecksMaybe sleeps (Checked old) before answer (Checked new) after calls =
    Checks sleeps old before answer new after calls
ChecksMaybe sleeps (Checked old) before answer Direct after calls = ⊥
ChecksMaybe sleeps Direct before answer new after calls =
    (answer ≡ Ok None) × (new ≡ Direct) × (after ≡ before) × (calls ≡ [])

-- whether the setting Upload stands
abbrev pub has_upload : StandingLayers → Bool
has_upload settings = is_some (loaded settings keys.Upload)

-- whether uploads or downloads are protected
abbrev pub is_enabled : StalledStreamProtectionConfig → Bool
is_enabled stall = stall.upload || stall.download

-- the check of an upload, by whether Upload stands and by the standing configuration
abbrev pub check_by : Bool → Option StalledStreamProtectionConfig → MaybeUploadThroughputCheck
check_by upload None = Direct
check_by upload (Some stall) =
    if upload && is_enabled stall
    then Checked (record {
      grace = record { options = record default_options { grace_period = stall.grace_period }; sleep = None };
    })
    else Direct

-- the upload is looked at where Upload stands and a stream is protected
abbrev pub standing_check : StandingLayers → MaybeUploadThroughputCheck
standing_check settings = check_by (has_upload settings) (standing_stall settings)

-- What a guard's log keeps of a body's answers.
use Rattle.std.specs.Prelude.{◌≡◌, ℕ, List, [], ◌∷◌, ◌++◌, length}
use Rattle.stream_guard.specs.Logs.{Log, Keeps, SameSettings}
use Rattle.stream_guard.specs.Report.{Came, Transferred, Pending as PendingEvent, Looked, report_of}
use Rattle.stream_guard.specs.declared.report.ThroughputReport.{ThroughputReport}
use Rattle.smithy_types.specs.declared.polled.Polled.{Polled}
use Rattle.smithy_types.specs.declared.polled.Polled.TheVariants.{Pending, Data}

-- data and pending are events, nothing else is
abbrev pub with_event : List Came → ℕ → Polled → List Came
with_event before now (Data bytes) = before ++ Transferred now (length bytes) ∷ []
with_event before now Pending = before ++ PendingEvent now ∷ []
with_event before now _ = before

-- the event was added, and the report of this moment taken
pub record Sees (old : Log) (answer : Polled) (now : ℕ) (report : ThroughputReport) (new : Log) : Type 0 where
  pub settings : SameSettings old new
  pub kept : (before : List Came) → Keeps old before → Keeps new (with_event before now answer ++ Looked now ∷ [])
  pub reported : (before : List Came) → Keeps old before →
      report ≡ report_of old.start old.resolution old.complete (with_event before now answer) now

-- An event and a look, one after the other.
use Rattle.std.proofs.Common.{◌≡◌, ℕ, List, [], ◌∷◌, ◌++◌, ap, ◌∙◌}
use Rattle.stream_guard.specs.Logs.{Log, Keeps, SameSettings}
use Rattle.stream_guard.specs.Report.{Came, Looked, report_of}
use Rattle.stream_guard.specs.declared.report.ThroughputReport.{ThroughputReport}
use Rattle.body_guard.specs.Events.{Sees, with_event}
use Rattle.smithy_types.specs.declared.polled.Polled.{Polled}

-- a report by settings that are the same
same_report : (old mid : Log) (came : List Came) (now : ℕ) → SameSettings old mid → report_of mid.start mid.resolution mid.complete came now ≡ report_of old.start old.resolution old.complete came now
same_report old mid came now same =
    ap (λ x. report_of x mid.resolution mid.complete came now) same.start
    ∙ ap (λ x. report_of old.start x mid.complete came now) same.resolution
    ∙ ap (λ x. report_of old.start old.resolution x came now) same.complete

pub seen : (old mid new : Log) (answer : Polled) (now : ℕ) (report : ThroughputReport) → SameSettings old mid
    → ((before : List Came) → Keeps old before → Keeps mid (with_event before now answer))
    → SameSettings mid new
    → ((came : List Came) → Keeps mid came → Keeps new (came ++ Looked now ∷ []))
    → ((came : List Came) → Keeps mid came → report ≡ report_of mid.start mid.resolution mid.complete came now)
    → Sees old answer now report new
seen old mid new answer now report first event second look said = record {
  settings = record {
    start = second.start ∙ first.start;
    resolution = second.resolution ∙ first.resolution;
    complete = second.complete ∙ first.complete;
  };
  kept = λ before keeps. look (with_event before now answer) (event before keeps);
  reported = λ before keeps. said (with_event before now answer) (event before keeps) ∙ same_report old mid (with_event before now answer) now first;
}

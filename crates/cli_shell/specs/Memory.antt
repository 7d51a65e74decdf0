-- What sources and sinks in memory tell.
use Rattle.std.specs.Prelude.{ℕ, ◌+◌, ◌-◌, ◌^◌, List, drop, Bool, false, Some, min, nat_eq}
use Rattle.std.specs.Io.Cursor.{cursor_inner, cursor_position}
use Rattle.std.specs.List.{list_any}
use Rattle.cli_shell.specs.Sink.{SinkView}
use Rattle.cli_shell.specs.Source.{SourceView}
use Rattle.cli_shell.specs.declared.sink.Wrote.{Wrote}
use Rattle.cli_shell.specs.declared.sink.Wrote.TheVariants as wrotes
use Rattle.cli_shell.specs.declared.source.Got.{Got}
use Rattle.cli_shell.specs.declared.source.Got.TheVariants as gots
use Rattle.cli_shell.specs.declared.memory.MemorySink.{MemorySink}
use Rattle.cli_shell.specs.declared.memory.MemorySource.{MemorySource}
use Rattle.cli_shell.specs.declared.memory.SureSink.{SureSink}
use Rattle.cli_shell.specs.declared.memory.SureSource.{SureSource}

-- the list has this number
abbrev pub is_listed : ℕ → List ℕ → Bool
is_listed call list = list_any (λ k. nat_eq k call) list

-- one more, as far as the count has room
abbrev pub counted : ℕ → ℕ
counted n = min (n + 1) (2 ^ 64 - 1)

-- A failure is counted, and nothing else is.
abbrev pub faults_read : ℕ → Got → ℕ
faults_read faults gots.Failed = counted faults
faults_read faults gots.End = faults
faults_read faults (gots.Bytes n) = faults

-- a failure of a write is counted, and nothing else is
abbrev pub faults_written : ℕ → Wrote → ℕ
faults_written faults wrotes.Failed = counted faults
faults_written faults (wrotes.Took n) = faults

-- a source in memory that never fails tells the bytes behind its position
abbrev pub sure_source_view : SureSource → SourceView
sure_source_view s = record { left = Some (drop (cursor_position s.bytes) (cursor_inner s.bytes).items); faults = 0 }

-- a source in memory tells the bytes behind its position, and how often it has failed
abbrev pub source_view : MemorySource → SourceView
source_view s = record { left = Some (drop (cursor_position s.bytes) (cursor_inner s.bytes).items); faults = s.faults }

-- a sink in memory tells all that was written, loses nothing, and counts its failures
abbrev pub sink_view : MemorySink → SinkView
sink_view s = record { written = Some s.bytes.items; is_lost = false; faults = s.faults }

-- a sink in memory that never fails tells what it holds, and whether bytes were lost
abbrev pub sure_view : SureSink → SinkView
sure_view s = record { written = Some s.bytes.items; is_lost = s.is_lost; faults = 0 }

-- A log as its callers see it, and which events and looks it keeps.
use Rattle.std.specs.List.{list_any}
use Rattle.std.specs.Prelude.{◌≡◌, ℕ, ◌-◌, ◌<◌, ◌≤◌, ◌==◌, min, max, ◌||◌, nat_lt, if◌then◌else◌, Bool, false, List}
use Rattle.std.specs.Prelude.{replicate}
use Rattle.stream_guard.specs.Bin.{most_bytes, no_polling, back, merged, Shifted}
use Rattle.stream_guard.specs.Report.{Came, Placed, own_bin, latest_from, placed_from, label_in, bytes_in}
use Rattle.stream_guard.specs.Judged.{judged_bins}
use Rattle.stream_guard.specs.declared.bin.Bin.{Bin}
use Rattle.stream_guard.specs.declared.report.ThroughputReport.{ThroughputReport}
use Rattle.stream_guard.specs.declared.report.ThroughputReport.TheVariants as report

-- a log of throughput: its settings, and what it shows of the last ten bins
pub record Log : Type 0 where
  pub start : ℕ
  -- how long a bin is
  pub resolution : ℕ
  pub complete : Bool
  -- the latest bin: 0 before the start, 1 and up from the start on
  pub latest : ℕ
  -- whether an event came before the start
  pub early : Bool
  -- the last ten bins, the latest last
  pub bins : List Bin

-- a new log, to which nothing came yet
abbrev pub empty_log : ℕ → ℕ → Log
empty_log start resolution = record {
  start = start;
  resolution = resolution;
  complete = false;
  latest = 0;
  early = false;
  bins = replicate 10 no_polling;
}

-- a bin with what these events make of it
abbrev pub bin_in : List Placed → ℕ → Bin
bin_in placed bin = record { label = label_in placed bin; bytes = min (bytes_in placed bin) most_bytes }

-- the log shows what these events and looks make
pub record KeepsPlaced (log : Log) (placed : List Placed) (last : ℕ) : Type 0 where
  pub latest : log.latest ≡ last
  pub early : log.early ≡ list_any (λ p. p.bin == 0) placed
  pub bins : (k : ℕ) → k < 10 → k ≤ last → back k log.bins ≡ bin_in placed (last - k)

-- the log shows all that came to it
abbrev pub Keeps : Log → List Came → Type 0
Keeps log came =
    KeepsPlaced log (placed_from log.start log.resolution 0 came) (latest_from log.start log.resolution 0 came)

-- what only new and mark_complete set
pub record SameSettings (old new : Log) : Type 0 where
  pub start : new.start ≡ old.start
  pub resolution : new.resolution ≡ old.resolution
  pub complete : new.complete ≡ old.complete

-- the latest bin is that of the moment, where it is later, and all bins moved on by as many
pub record CatchesUp (old : Log) (now : ℕ) (new : Log) : Type 0 where
  pub settings : SameSettings old new
  pub early : new.early ≡ old.early
  pub latest : new.latest ≡ max (own_bin old.start old.resolution now) old.latest
  pub bins : Shifted (new.latest - old.latest) old.bins new.bins

-- how many bins are pushed where all move so many places on: one a place, and none where all ten go
abbrev pub pushes_for : ℕ → ℕ
pushes_for places = if nat_lt places 10 then places else 0

-- how many are pushed where a log sees a moment
abbrev pub pushes_at : Log → ℕ → ℕ
pushes_at log now = pushes_for (own_bin log.start log.resolution now - log.latest)

-- the latest bin has the event too
pub record AddsEvent (old : Log) (event : Bin) (new : Log) : Type 0 where
  pub settings : SameSettings old new
  pub latest : new.latest ≡ old.latest
  pub early : new.early ≡ (old.early || (old.latest == 0))
  pub last : back 0 new.bins ≡ merged (back 0 old.bins) event
  pub others : (k : ℕ) → 0 < k → k < 10 → back k new.bins ≡ back k old.bins

-- what the bins say, as they are
abbrev pub shown : Log → ThroughputReport
shown log =
    if log.complete then report.Complete
    else if nat_lt log.latest (if log.early then 9 else 10) then report.Incomplete
    else judged_bins log.resolution log.bins

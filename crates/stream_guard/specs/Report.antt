-- What a log reports, as a count over everything that ever came to it.
use Rattle.std.specs.List.{list_any}
use Rattle.std.specs.Prelude.{ℕ, ◌+◌, ◌-◌, ◌*◌, ◌/◌, ◌==◌, ◌&&◌, nat_lt, nat_le, min, max, Bool, if◌then◌else◌, List}
use Rattle.std.specs.Prelude.{[], ◌∷◌, ◌++◌, count_by, sum_by}
use Rattle.stream_guard.specs.Bin.{is_no_polling, is_pending, is_transferred, most_bytes}
use Rattle.stream_guard.specs.declared.bin.BinLabel.{BinLabel}
use Rattle.stream_guard.specs.declared.bin.BinLabel.TheVariants as label
use Rattle.stream_guard.specs.declared.report.ThroughputReport.{ThroughputReport}
use Rattle.stream_guard.specs.declared.report.ThroughputReport.TheVariants as report

-- what comes to a log, at a moment: an event, or a look that a report takes
pub data Came : Type 0 where
  Pending : ℕ → Came
  Transferred : ℕ → ℕ → Came
  Looked : ℕ → Came

-- the bin of a moment: 0 before the start, and from the start on 1 and up, one for each resolution
abbrev pub own_bin : ℕ → ℕ → ℕ → ℕ
own_bin start resolution now = if nat_lt now start then 0 else (now - start) / resolution + 1

-- when it came
abbrev pub moment_of : Came → ℕ
moment_of (Pending now) = now
moment_of (Transferred now bytes) = now
moment_of (Looked now) = now

-- the latest bin once all this came, from the latest before it; it never goes back
abbrev pub latest_from : ℕ → ℕ → ℕ → List Came → ℕ
latest_from start resolution latest [] = latest
latest_from start resolution latest (c ∷ cs) =
    latest_from start resolution (max (own_bin start resolution (moment_of c)) latest) cs

-- an event in its bin
pub record Placed : Type 0 where
  pub bin : ℕ
  pub label : BinLabel
  pub bytes : ℕ

-- what a bin gets by this: a look brings no event
abbrev pub event_in : ℕ → Came → List Placed
event_in bin (Pending now) = record { bin = bin; label = label.Pending; bytes = 0 } ∷ []
event_in bin (Transferred now bytes) = record { bin = bin; label = label.TransferredBytes; bytes = bytes } ∷ []
event_in bin (Looked now) = []

-- each event in its own bin, or in the latest so far where that is later
abbrev pub placed_from : ℕ → ℕ → ℕ → List Came → List Placed
placed_from start resolution latest [] = []
placed_from start resolution latest (c ∷ cs) =
    let bin = max (own_bin start resolution (moment_of c)) latest in
    event_in bin c ++ placed_from start resolution bin cs

-- what a bin shows: a transfer, be it of no byte, else a pending event, else that nothing was polled
abbrev pub label_in : List Placed → ℕ → BinLabel
label_in placed bin =
    if list_any (λ p. p.bin == bin && is_transferred p.label) placed then label.TransferredBytes
    else if list_any (λ p. p.bin == bin && is_pending p.label) placed then label.Pending
    else label.NoPolling

-- the bytes that came in a bin
abbrev pub bytes_in : List Placed → ℕ → ℕ
bytes_in placed bin = sum_by (λ p. if p.bin == bin then p.bytes else 0) placed

-- the bins run from 1 to the latest, or from 0 where an event came before the start
abbrev pub bin_count : List Placed → ℕ → ℕ
bin_count placed latest = if list_any (λ p. p.bin == 0) placed then latest + 1 else latest

-- the latest bin and the nine before it
abbrev pub last_ten : ℕ → List ℕ
last_ten latest =
    (latest - 9) ∷ (latest - 8) ∷ (latest - 7) ∷ (latest - 6) ∷ (latest - 5) ∷ (latest - 4) ∷ (latest - 3)
    ∷ (latest - 2) ∷ (latest - 1) ∷ (latest - 0) ∷ []

-- what these bins say: the rate, where bytes came; else what at least five of them show
abbrev pub judged : ℕ → List Placed → List ℕ → ThroughputReport
judged resolution placed bins =
    if list_any (λ b. is_transferred (label_in placed b)) bins then
    report.Transferred
    (record { bytes_read = min (sum_by (bytes_in placed) bins) most_bytes; per_time_elapsed = 10 * resolution })
    else if nat_le 5 (count_by (λ b. is_no_polling (label_in placed b)) bins) then report.NoPolling
    else if nat_le 5 (count_by (λ b. is_pending (label_in placed b)) bins) then report.Pending
    else report.Incomplete

-- what placed events report: with fewer than ten bins nothing is told yet
abbrev pub report_after : ℕ → List Placed → ℕ → ThroughputReport
report_after resolution placed latest =
    if nat_lt (bin_count placed latest) 10 then report.Incomplete else judged resolution placed (last_ten latest)

-- the report at a moment, where all this came before
abbrev pub report_of : ℕ → ℕ → Bool → List Came → ℕ → ThroughputReport
report_of start resolution complete came now =
    if complete then report.Complete
    else
    (let all = came ++ Looked now ∷ [] in
    report_after resolution (placed_from start resolution 0 all) (latest_from start resolution 0 all))

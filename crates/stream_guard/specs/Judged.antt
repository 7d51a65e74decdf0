-- What ten bins say, by the bins alone.
use Rattle.std.specs.List.{list_any}
use Rattle.std.specs.Prelude.{ℕ, ◌+◌, ◌*◌, min, nat_le, if◌then◌else◌, List, fold, count_by}
use Rattle.stream_guard.specs.Bin.{is_no_polling, is_pending, is_transferred, most_bytes}
use Rattle.stream_guard.specs.declared.bin.Bin.{Bin}
use Rattle.stream_guard.specs.declared.report.ThroughputReport.{ThroughputReport}
use Rattle.stream_guard.specs.declared.report.ThroughputReport.TheVariants as report

-- what ten bins say: the rate, where bytes came; else what at least five of them show
abbrev pub judged_bins : ℕ → List Bin → ThroughputReport
judged_bins resolution bins =
    if list_any (λ b. is_transferred b.label) bins then
    report.Transferred
    (record {
      bytes_read = fold (λ sum b. min (sum + b.bytes) most_bytes) 0 bins;
      per_time_elapsed = 10 * resolution;
    })
    else if nat_le 5 (count_by (λ b. is_no_polling b.label) bins) then report.NoPolling
    else if nat_le 5 (count_by (λ b. is_pending b.label) bins) then report.Pending
    else report.Incomplete

-- What ten bins have together.
use Rattle.std.specs.Prelude.{ℕ, ◌+◌, ◌-◌, ◌*◌, ◌≤◌, min, nat_lt, nat_le, if◌then◌else◌, Bool, List, count_by, sum_by}
use Rattle.stream_guard.specs.Bin.{is_no_polling, is_pending, is_transferred, most_bytes}
use Rattle.stream_guard.specs.declared.bin.Bin.{Bin}
use Rattle.stream_guard.specs.declared.report.ThroughputReport.{ThroughputReport}
use Rattle.stream_guard.specs.declared.report.ThroughputReport.TheVariants as report
use Rattle.stream_guard.specs.declared.totals.Totals.{Totals}

-- one where the test holds, else none
abbrev pub one : Bool → ℕ
one counts = if counts then 1 else 0

-- how many bins have each label, and the bytes of all
abbrev pub totals_of : List Bin → Totals
totals_of bins = record {
  no_polling = count_by (λ b. is_no_polling b.label) bins;
  pending = count_by (λ b. is_pending b.label) bins;
  transferred = count_by (λ b. is_transferred b.label) bins;
  bytes = sum_by (λ b. b.bytes) bins;
}

-- the totals of ten bins in which nothing was polled
abbrev pub no_totals : Totals
no_totals = record { no_polling = 10; pending = 0; transferred = 0; bytes = 0 }

-- a bin is among ten that have these totals
pub record Counts (totals : Totals) (bin : Bin) : Type 0 where
  pub no_polling : one (is_no_polling bin.label) ≤ totals.no_polling
  pub pending : one (is_pending bin.label) ≤ totals.pending
  pub transferred : one (is_transferred bin.label) ≤ totals.transferred
  pub bytes : bin.bytes ≤ totals.bytes
  pub few_no_polling : totals.no_polling ≤ 10
  pub few_pending : totals.pending ≤ 10
  pub few_transferred : totals.transferred ≤ 10
  pub few_bytes : totals.bytes ≤ 10 * most_bytes

-- one bin goes and another comes
abbrev pub exchanged : Totals → Bin → Bin → Totals
exchanged totals old new = record {
  no_polling = totals.no_polling + one (is_no_polling new.label) - one (is_no_polling old.label);
  pending = totals.pending + one (is_pending new.label) - one (is_pending old.label);
  transferred = totals.transferred + one (is_transferred new.label) - one (is_transferred old.label);
  bytes = totals.bytes + new.bytes - old.bytes;
}

-- what ten bins with these totals say
abbrev pub judged_totals : ℕ → Totals → ThroughputReport
judged_totals resolution totals =
    if nat_lt 0 totals.transferred then report.Transferred
    (record { bytes_read = min totals.bytes most_bytes; per_time_elapsed = 10 * resolution })
    else if nat_le 5 totals.no_polling then report.NoPolling
    else if nat_le 5 totals.pending then report.Pending
    else report.Incomplete

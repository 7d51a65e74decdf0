-- The rates that streams are judged by.
use Rattle.std.specs.Prelude.{Bool, ◌*◌, nat_lt, if◌then◌else◌, Option, None, Some}
use Rattle.stream_guard.specs.Rate.{fraction_bytes, fraction_nanos, per_second}
use Rattle.stream_guard.specs.declared.report.ThroughputReport.{ThroughputReport}
use Rattle.stream_guard.specs.declared.report.ThroughputReport.TheVariants.{NoPolling, Pending, Transferred}
use Rattle.stream_guard.specs.declared.throughput.Throughput.{Throughput}

-- the rate that a report says of a download: one that was asked and had nothing stands still
abbrev pub download_rate : ThroughputReport → Option Throughput
download_rate Pending = Some (per_second 0)
download_rate (Transferred rate) = Some rate
download_rate _ = None

-- the rate that a report says of an upload: one that nobody asked for more stands still
abbrev pub upload_rate : ThroughputReport → Option Throughput
upload_rate NoPolling = Some (per_second 0)
upload_rate (Transferred rate) = Some rate
upload_rate _ = None

-- fractions compare by cross multiplication
abbrev pub is_below : Throughput → Throughput → Bool
is_below rate minimum =
    nat_lt (fraction_bytes rate * fraction_nanos minimum) (fraction_bytes minimum * fraction_nanos rate)

-- the rate, where it is below the minimum
abbrev pub violation : Throughput → Option Throughput → Option Throughput
violation minimum None = None
violation minimum (Some rate) = if is_below rate minimum then Some rate else None

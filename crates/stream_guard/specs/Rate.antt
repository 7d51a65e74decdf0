-- A rate as a fraction, its order and its text.
use Rattle.std.specs.Prelude.{ℕ, ◌+◌, ◌*◌, ◌/◌, ◌%◌, ◌==◌, if◌then◌else◌, List, [], ◌++◌, codes}
use Rattle.std.specs.Ordering.{nat_cmp}
use Rattle.std.specs.declared.cmp.Ordering.{Ordering}
use Rattle.std.specs.Fmt.{decimal}
use Rattle.stream_guard.specs.declared.throughput.Throughput.{Throughput}

-- so many bytes in a second
abbrev pub per_second : ℕ → Throughput
per_second bytes = record { bytes_read = bytes; per_time_elapsed = 1000000000 }

-- the rate as bytes over ns, which aren't 0: over no time it is zero
abbrev pub fraction_bytes : Throughput → ℕ
fraction_bytes t = if t.per_time_elapsed == 0 then 0 else t.bytes_read

-- the ns of that fraction: 1 where the rate is over no time
abbrev pub fraction_nanos : Throughput → ℕ
fraction_nanos t = if t.per_time_elapsed == 0 then 1 else t.per_time_elapsed

-- fractions compare by cross multiplication
abbrev pub rate_cmp : Throughput → Throughput → Ordering
rate_cmp x y = nat_cmp (fraction_bytes x * fraction_nanos y) (fraction_bytes y * fraction_nanos x)

-- thousandths of a byte per second, rounded to the nearest, and a half up
abbrev pub thousandths_of : Throughput → ℕ
thousandths_of t =
    if t.per_time_elapsed == 0 then 0
    else (2 * t.bytes_read * 1000000000000 + t.per_time_elapsed) / (2 * t.per_time_elapsed)

-- up to three digits behind a point, without final zeros
abbrev pub decimals : ℕ → ℕ → ℕ → List ℕ
decimals tenths hundredths rest =
    if rest == 0 then
    (if hundredths == 0 then (if tenths == 0 then [] else codes "." ++ decimal tenths)
    else codes "." ++ decimal tenths ++ decimal hundredths)
    else codes "." ++ decimal tenths ++ decimal hundredths ++ decimal rest

-- a rate as texts show it, in bytes per second
abbrev pub rate_text : Throughput → List ℕ
rate_text t =
    let n = thousandths_of t in decimal (n / 1000) ++ decimals (n / 100 % 10) (n / 10 % 10) (n % 10) ++ codes " B/s"

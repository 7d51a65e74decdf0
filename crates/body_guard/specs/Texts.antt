-- The failures of guarded bodies, with their texts.
use Rattle.std.specs.Prelude.{ℕ, List, ◌++◌, codes}
use Rattle.std.specs.Fmt.{decimal}
use Rattle.smithy_types.specs.declared.fault.Fault.{Fault}
use Rattle.smithy_types.specs.declared.fault.FaultKind.TheVariants.{Response}
use Rattle.stream_guard.specs.Rate.{rate_text}
use Rattle.stream_guard.specs.declared.throughput.Throughput.{Throughput}

-- a body that is read fails with this text
abbrev pub response_fault : List ℕ → Fault
response_fault text = record { kind = Response; text = text }

-- a sleep is needed and there is none
abbrev pub no_sleep : Fault
no_sleep = response_fault (codes "absent")

-- how fast the stream has to be, and how fast it was
abbrev pub below_text : Throughput → Throughput → List ℕ
below_text expected actual =
    codes "minimum throughput was specified at " ++ rate_text expected ++ codes ", but throughput of "
    ++ rate_text actual ++ codes " was observed"

-- how many bytes there had to be, and how many there were
abbrev pub length_text : ℕ → ℕ → List ℕ
length_text expected received =
    codes "Invalid Content-Length: Expected " ++ decimal expected ++ codes " bytes but " ++ decimal received
    ++ codes " bytes were received"

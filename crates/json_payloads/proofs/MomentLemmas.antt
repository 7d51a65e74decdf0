-- What is printed of a moment spells it, and what is read of a text is what it spells.
use Rattle.std.proofs.Common.{◌≡◌, ℕ, List, Ok, Err, Some, None, false, ap}
use Rattle.jiff_core.specs.declared.error.Error.{Error}
use Rattle.jiff_core.specs.declared.timestamp.Timestamp.{Timestamp}
use Rattle.jiff_fmt.specs.Printer.{options, IsTimestampText}
use Rattle.jiff_fmt.specs.Temporal.{parse_timestamp}
use Rattle.jiff_fmt.specs.declared.temporal.printer.DateTimePrinter.{DateTimePrinter}
use Rattle.jiff_fmt.proofs.RoundTrip.{parse_timestamp-printed}
use Rattle.json_payloads.specs.Base64.{ok_of}
use Rattle.json_payloads.specs.Moments.{moment_in}

-- a moment's text in UTC spells it
pub printed_in_utc : (p : DateTimePrinter) (t : Timestamp) (text : List ℕ) → options p ≡ (false, 84, None) → IsTimestampText p t text → moment_in text ≡ Some t.nanosecond
unfolding moment_in
printed_in_utc p t text plain printed = ap ok_of (parse_timestamp-printed p t text plain printed)

-- what was read of a text is the moment that it spells
pub read_moment : (text : List ℕ) (t : Timestamp) → Ok t.nanosecond ≡ parse_timestamp text → Some t.nanosecond ≡ moment_in text
unfolding moment_in
read_moment text t is = ap ok_of is

pub read_none : (text : List ℕ) (e : Error) → Err e ≡ parse_timestamp text → None ≡ moment_in text
unfolding moment_in
read_none text e is = ap ok_of is

-- The frames of a body: what each adds to its bytes, and how an ask stops.
use Rattle.std.specs.Prelude.{ℕ, ◌+◌, Bool, nat_le, if◌then◌else◌, List, [], ◌++◌, length, Option, None, Some}
use Rattle.smithy_types.specs.declared.polled.Polled.{Polled}
use Rattle.smithy_types.specs.declared.polled.Polled.TheVariants as polled
use Rattle.client_call.specs.declared.reading.Stop.{Stop}
use Rattle.client_call.specs.declared.reading.Stop.TheVariants.{Pending, End, Failed, TooLong}

-- a body may have so many bytes
abbrev pub fits_in : List ℕ → List ℕ → Bool
fits_in bytes more = nat_le (length bytes + length more) 16384

-- how an ask stops with a frame, behind these bytes, the body being over outside or not; none where it goes on
abbrev pub stop_of : List ℕ → Bool → Polled → Option Stop
stop_of bytes over polled.Pending = Some Pending
stop_of bytes over (polled.Data more) = if fits_in bytes more then None else Some TooLong
stop_of bytes over polled.Trailers = None
stop_of bytes over polled.End = Some End
stop_of bytes over (polled.Failed fault) = Some (Failed fault.text over)

-- the bytes with those of a frame, where they aren't too many
abbrev pub gathered : List ℕ → Polled → List ℕ
gathered bytes (polled.Data more) = if fits_in bytes more then bytes ++ more else bytes
gathered bytes _ = bytes

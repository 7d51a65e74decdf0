-- Why a line is refused.
use Rattle.std.specs.Prelude.{◌++◌, ◌≡◌, ℕ, Bool, is_some, if◌then◌else◌, List, slice_get, Option, Some, None, codes}
use Rattle.json_forms.specs.Lines.{line}
use Rattle.json_host.specs.Replies.{refused_data}
use Rattle.json_host.specs.declared.message.SeatMessage.{SeatMessage}
use Rattle.json_host.specs.declared.message.SeatMessage.TheVariants as message
use Rattle.script_forms.specs.Refusal.{TellsNoMessage}
use Rattle.host_session.specs.declared.seat.Seat.{Seat}
use Rattle.host_session.specs.declared.why.Why.{Why}
use Rattle.host_session.specs.declared.why.Why.TheVariants as why

-- Behind this text stands the line that tells the host that its line is no message, and where and why.
pub record TellsWhy (before text : List ℕ) : Type 0 where
  pub why : List ℕ
  pub tells : TellsNoMessage why
  pub text_is : text ≡ before ++ line (refused_data why)

-- what the host of a message is told
abbrev pub why_text : Why → List ℕ
why_text why.NoSeat = codes "no seat"
why_text why.Busy = codes "busy"
why_text why.Idle = codes "idle"

-- a run is begun where none is under way, and all else is for the one that is
abbrev pub refusal_of : SeatMessage → Bool → Option Why
refusal_of (message.Invoke invocation) is_running = if is_running then Some why.Busy else None
refusal_of (message.At moment events) is_running = if is_running then None else Some why.Idle
refusal_of (message.GiveUp moment) is_running = if is_running then None else Some why.Idle

module _ {W : Type 0} where
  -- the same of a seat that there may not be
  abbrev pub refusal_by : Option (Seat W) → SeatMessage → Option Why
  refusal_by None m = Some why.NoSeat
  refusal_by (Some seat) m = refusal_of m (is_some seat.run)

  -- why a message for the seat of this number is refused, if it is
  abbrev pub refusal_at : List (Seat W) → ℕ → SeatMessage → Option Why
  refusal_at seats number m = refusal_by (slice_get seats number) m

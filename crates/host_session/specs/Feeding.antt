-- What a line of the host makes of a session, and what the host is told.
use Rattle.std.specs.Prelude.{◌≡◌, ◌⊎◌, ℕ, List, ◌++◌, slice_get, slice_set, Option, Some, None}
use Rattle.rate_limit.specs.Pace.{Pace}
use Rattle.retry_quota.specs.Registers.{Registers}
use Rattle.json_buckets.specs.Buckets.{buckets_text}
use Rattle.json_forms.specs.Lines.{line}
use Rattle.json_host.specs.Messages.{IsMessage}
use Rattle.json_host.specs.Replies.{end_data, refused_data}
use Rattle.json_host.specs.declared.message.HostMessage.{HostMessage}
use Rattle.json_host.specs.declared.message.HostMessage.TheVariants as message
use Rattle.json_host.specs.declared.message.SeatMessage.{SeatMessage}
use Rattle.host_session.specs.declared.seat.Seat.{Seat}
use Rattle.host_session.specs.declared.session.Fed.{Fed}
use Rattle.host_session.specs.declared.session.Fed.TheVariants.{Open, Closed}
use Rattle.host_session.specs.declared.session.Session.{Session}
use Rattle.host_session.specs.declared.why.Why.{Why}
use Rattle.host_session.specs.Meaning.{HostedMeaning}
use Rattle.host_session.specs.Refusing.{TellsWhy, refusal_at, why_text}
use Rattle.host_session.specs.Seats.{Takes}

-- A line that is no message changes nothing, and the host is told where and why.
pub record RefusesLine {W : Type 0} (old : Session W) (before : List ℕ) (new : Session W) (text : List ℕ) (come : Fed)
    : Type 0 where
  pub same : new ≡ old
  pub told : TellsWhy before text
  pub stays : come ≡ Open

-- A message that is refused changes nothing, and the host is told why.
pub record Refuses {W : Type 0} (reason : Why) (old : Session W) (before : List ℕ) (new : Session W) (text : List ℕ)
    (come : Fed) : Type 0 where
  pub same : new ≡ old
  pub text_is : text ≡ before ++ line (refused_data (why_text reason))
  pub stays : come ≡ Open

-- the seat whose client has this quota
abbrev pub lent : {W : Type 0} → HostedMeaning W → Registers Pace → Seat W → Seat W
lent means quota seat = record seat { world = means.with_quota quota seat.world }

module _ {W : Type 0} (means : HostedMeaning W) where
  -- The seat of this number takes a message. Its client has the shared quota meanwhile, and afterwards its own again.
  -- The other seats stay.
  pub record TakesAt (number : ℕ) (m : SeatMessage) (old : Session W) (before : List ℕ) (new : Session W)
      (text : List ℕ) : Type 0 where
    pub seat : Seat W
    pub stands : slice_get old.seats.items number ≡ Some seat
    pub after : Seat W
    pub takes : Takes means m (lent means old.quota seat) before after text
    pub seats : new.seats.items ≡ slice_set old.seats.items number (lent means (means.quota seat.world) after)
    pub quota : new.quota ≡ means.quota after.world

  -- a message for a seat is refused, or it is taken
  abbrev pub MeetsBy : Option Why → ℕ → SeatMessage → Session W → List ℕ → Session W → List ℕ → Fed → Type 0
  MeetsBy (Some reason) number m old before new text come = Refuses reason old before new text come
  MeetsBy None number m old before new text come = TakesAt number m old before new text × (come ≡ Open)

  -- what a message makes of a session
  abbrev pub Meets : HostMessage → Session W → List ℕ → Session W → List ℕ → Fed → Type 0
  Meets (message.Seat number m) old before new text come =
      MeetsBy (refusal_at old.seats.items number m) number m old before new text come
  Meets message.Sums old before new text come =
      (new ≡ old) × (text ≡ (before ++ buckets_text 0 old.quota.books) ++ line end_data) × (come ≡ Open)
  Meets message.Close old before new text come = (new ≡ old) × (text ≡ before) × (come ≡ Closed)

  -- a line is a message, or it is refused
  abbrev pub Feeds : List ℕ → Session W → List ℕ → Session W → List ℕ → Fed → Type 0
  Feeds bytes old before new text come =
      ((m : HostMessage) × IsMessage bytes m × Meets m old before new text come)
      ⊎ (((m : HostMessage) → IsMessage bytes m → ⊥) × RefusesLine old before new text come)

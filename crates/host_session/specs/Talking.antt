-- A conversation with a host.
use Rattle.std.specs.Prelude.{◌≡◌, ◌⊎◌, ℕ, ◌-◌, ◌^◌, List, [], length, Option, Some, None}
use Rattle.smithy_types.specs.Chain.{Chained}
use Rattle.cli_shell.specs.Sink.{SinkView, Adds, AddsFront}
use Rattle.cli_shell.specs.Source.{SourceView, Rose}
use Rattle.cli_shell.specs.declared.status.Ended.{Ended}
use Rattle.cli_shell.specs.declared.status.Ended.TheVariants.{Printed, Refused, Shell}
use Rattle.cli_shell.specs.declared.status.PrintStatus.TheVariants as outcomes
use Rattle.cli_shell.specs.declared.status.ShellStatus.{ShellStatus}
use Rattle.cli_shell.specs.declared.status.ShellStatus.TheVariants as shells
use Rattle.host_session.specs.Feeding.{Feeds}
use Rattle.host_session.specs.Meaning.{HostedMeaning}
use Rattle.host_session.specs.declared.session.Fed.{Fed}
use Rattle.host_session.specs.declared.session.Fed.TheVariants.{Open, Closed}
use Rattle.host_session.specs.declared.session.Session.{Session}
use Rattle.host_session.specs.Lines.{EndsUnread, LosesLine, TakesLine}

-- where a conversation stands: the session, what was read and isn't taken, and what source and sink tell
pub record Stand (W : Type 0) : Type 0 where
  pub session : Session W
  pub unread : List ℕ
  pub source : SourceView
  pub sink : SinkView

-- such a place
abbrev pub stand : {W : Type 0} → Session W → List ℕ → SourceView → SinkView → Stand W
stand session unread source sink = record { session = session; unread = unread; source = source; sink = sink }

module _ {W : Type 0} (means : HostedMeaning W) where
  -- This was told of a line, and the session goes on so.
  pub record IsTold (line : List ℕ) (old : Session W) (before : SinkView) (come : Fed) (new : Session W)
      (after : SinkView) : Type 0 where
    pub told : List ℕ
    pub feeds : Feeds means line old [] new told come
    pub writes : Adds before told after

  -- what was told of a line can't be written, and a front of it was
  pub record IsLost (line : List ℕ) (old : Session W) (before : SinkView) (new : Session W) (after : SinkView)
      : Type 0 where
    pub told : List ℕ
    pub come : Fed
    pub feeds : Feeds means line old [] new told come
    pub front : AddsFront before told after
    pub fault : Rose before.faults after.faults

  -- why nothing, or not all, was told of a line
  unfoldable pub Untold : ShellStatus → List ℕ → Session W → SinkView → Session W → SinkView → Type 0
  Untold shells.WriteFault line old before new after = IsLost line old before new after
  Untold shells.OutOfMemory line old before new after = after ≡ before
  Untold shells.ReadFault line old before new after = ⊥
  Untold shells.LongInput line old before new after = ⊥
  Untold shells.BadWords line old before new after = ⊥

  -- One line is taken and fed, and what is told of it is written before the next one is taken.
  pub record Turns (come : Fed) (old : Stand W) (line : List ℕ) (new : Stand W) : Type 0 where
    pub takes : TakesLine old.unread old.source line new.unread new.source
    pub tells : IsTold line old.session old.sink come new.session new.sink

  -- The source is at its end, and no line is left.
  pub record Ends (old new : Stand W) : Type 0 where
    pub ends : EndsUnread old.unread old.source new.source
    pub session : new.session ≡ old.session
    pub sink : new.sink ≡ old.sink

  -- a turn, or the end
  unfoldable pub Goes : Option Fed → Stand W → Stand W → Type 0
  Goes None old new = Ends old new
  Goes (Some come) old new = (line : List ℕ) × Turns come old line new

  -- The conversation breaks off, and this is why.
  unfoldable pub Breaks : ShellStatus → Stand W → Stand W → Type 0
  Breaks shells.ReadFault old new =
      LosesLine old.unread shells.ReadFault old.source new.source × (new.session ≡ old.session) × (new.sink ≡ old.sink)
  Breaks shells.LongInput old new =
      LosesLine old.unread shells.LongInput old.source new.source × (new.session ≡ old.session) × (new.sink ≡ old.sink)
  Breaks shells.WriteFault old new =
      (line : List ℕ) × TakesLine old.unread old.source line new.unread new.source
      × IsLost line old.session old.sink new.session new.sink
  Breaks shells.OutOfMemory old new = new.sink ≡ old.sink
  Breaks shells.BadWords old new = ⊥

  -- behind so many lines: the end, a line that closes the session, or why it breaks off
  abbrev pub Stops : Ended → ℕ → Stand W → Stand W → Type 0
  Stops (Printed outcome) lines old new =
      (outcome ≡ outcomes.Ok)
      × (Goes None old new ⊎ (Goes (Some Closed) old new ⊎ ((lines ≡ 2 ^ 64 - 1) × (new ≡ old))))
  Stops (Refused refusal) lines old new = ⊥
  Stops (Shell status) lines old new = Breaks status old new

  -- line after line
  pub record Talks (ended : Ended) (old new : Stand W) : Type 0 where
    pub lines : List (List ℕ)
    pub last : Stand W
    pub turns : Chained (Turns Open) old lines last
    pub stops : Stops ended (length lines) last new

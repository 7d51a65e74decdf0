-- What serving a host does to its source and its sink.
use Rattle.std.specs.Prelude.{◌≡◌, ◌⊎◌, ℕ, true, false, List, [], length}
use Rattle.json_forms.specs.Lines.{line}
use Rattle.json_host.specs.Replies.{opened_data}
use Rattle.cli_shell.specs.Sink.{SinkView, Adds, AddsFront}
use Rattle.cli_shell.specs.Source.{SourceView, Rose}
use Rattle.cli_shell.specs.declared.status.Ended.{Ended}
use Rattle.cli_shell.specs.declared.status.Ended.TheVariants.{Refused, Shell}
use Rattle.cli_shell.specs.declared.status.Refusal.TheVariants as refusals
use Rattle.cli_shell.specs.declared.status.ShellStatus.{ShellStatus}
use Rattle.cli_shell.specs.declared.status.ShellStatus.TheVariants as shells
use Rattle.host_session.specs.Lines.{EndsUnread, LosesLine, TakesLine}
use Rattle.host_session.specs.Meaning.{HostedMeaning}
use Rattle.host_session.specs.Talking.{Talks, stand}
use Rattle.host_session.specs.declared.session.Session.{Session}
use Rattle.client_builder.specs.declared.own_interceptor.OwnInterceptor.{OwnInterceptor}
use Rattle.client_scripted.specs.declared.service.error.ServiceError.{ServiceError}
use Rattle.retry_policy.specs.declared.classify.Classifier.{Classifier}
use Rattle.smithy_base.specs.declared.intercept.Slot.{Slot}
use Rattle.cli_client.specs.Means.{NoClassifier, NoInterceptor, none, own_chain, own_ranked, own_says}
use Rattle.cli_serve.specs.Description.{IsDescription, description_fits}
use Rattle.cli_serve.specs.Means.{hosted_means}
use Rattle.cli_serve.specs.Opening.{Opens, ServedClient}
use Rattle.cli_serve.specs.declared.description.HostDescription.{HostDescription}

-- what was read and isn't taken, and what source and sink tell
pub record Place : Type 0 where
  pub unread : List ℕ
  pub source : SourceView
  pub sink : SinkView

-- such a place
abbrev pub place : List ℕ → SourceView → SinkView → Place
place unread source sink = record { unread = unread; source = source; sink = sink }

-- the host can't be told that so many seats are open, for want of memory or since the sink failed
abbrev pub IsUntold : ℕ → ShellStatus → SinkView → SinkView → Type 0
IsUntold seats shells.WriteFault old new = AddsFront old (line (opened_data seats)) new × Rose old.faults new.faults
IsUntold seats shells.OutOfMemory old new = new ≡ old
IsUntold seats _ old new = ⊥

-- so it is, and no further line is read
abbrev pub IsMute : ℕ → Ended → Place → Place → Type 0
IsMute seats (Shell status) old new =
    IsUntold seats status old.sink new.sink × (new ≡ record old { sink = new.sink })
IsMute seats _ old new = ⊥

module _ {W : Type 0} (means : HostedMeaning W) where
  -- The host is told how many seats are open, and then of each of its lines what feeding it tells.
  pub record Greets (session : Session W) (ended : Ended) (old new : Place) : Type 0 where
    pub greeted : SinkView
    pub writes : Adds old.sink (line (opened_data (length session.seats.items))) greeted
    pub left : Session W
    pub talks : Talks means ended (stand session old.unread old.source greeted)
        (stand left new.unread new.source new.sink)

  -- what serving a session comes to
  abbrev pub ServesSession : Session W → Ended → Place → Place → Type 0
  ServesSession session ended old new =
      Greets session ended old new ⊎ IsMute (length session.seats.items) ended old new

  -- such a session is opened, and served
  pub record OpensAndServes (opened : Session W → Type 0) (ended : Ended) (old new : Place) : Type 0 where
    pub session : Session W
    pub is_opened : opened session
    pub serves : ServesSession session ended old new

-- The session of a description is opened, and served. No client holds a box, so it doesn't matter what one would say.
abbrev pub ServesHost : HostDescription → Ended → Place → Place → Type 0
ServesHost d ended old new =
    OpensAndServes
    {W = ServedClient (Classifier ServiceError NoClassifier none) (Slot OwnInterceptor NoInterceptor none)}
    (hosted_means own_says own_chain)
    (Opens {V = NoClassifier} {W = NoInterceptor} {v = none} {w = none} own_ranked d) ended old new

-- there is no first line
abbrev pub LacksLine : Ended → Place → Place → Type 0
LacksLine (Refused refusals.BadScript) old new = EndsUnread old.unread old.source new.source × (new.sink ≡ old.sink)
LacksLine (Shell status) old new = LosesLine old.unread status old.source new.source × (new.sink ≡ old.sink)
LacksLine _ old new = ⊥

-- what a description comes to: it passes a limit, or it is within them and its host is served, or there is no memory
-- for its session
abbrev pub ServesDescription : HostDescription → Ended → Place → Place → Type 0
ServesDescription d ended old new =
    ((description_fits d ≡ false) × (ended ≡ Refused refusals.TooLarge) × (new ≡ old))
    ⊎ ((description_fits d ≡ true)
    × (ServesHost d ended old new ⊎ ((ended ≡ Shell shells.OutOfMemory) × (new ≡ old))))

-- what a first line comes to: it is a description, or it is none, or there is no memory to read it
abbrev pub ServesLine : List ℕ → Ended → Place → Place → Type 0
ServesLine first ended old new =
    ((d : HostDescription) × IsDescription first d × ServesDescription d ended old new)
    ⊎ (((ended ≡ Refused refusals.BadScript) × ((d : HostDescription) → IsDescription first d → ⊥) × (new ≡ old))
    ⊎ ((ended ≡ Shell shells.OutOfMemory) × (new ≡ old)))

-- the first line is taken, and what comes of it
pub record TakesFirst (ended : Ended) (old new : Place) : Type 0 where
  pub first : List ℕ
  pub mid : Place
  pub takes : TakesLine old.unread old.source first mid.unread mid.source
  pub sink : mid.sink ≡ old.sink
  pub serves : ServesLine first ended mid new

-- A host is served from a source to a sink.
pub record Converses (ended : Ended) (before after : SourceView) (old new : SinkView) : Type 0 where
  pub unread : List ℕ
  pub goes : LacksLine ended (place [] before old) (place unread after new)
      ⊎ TakesFirst ended (place [] before old) (place unread after new)

-- How a host is served, from its first line on.
use Rattle.std.proofs.Common.{◌≡◌, ℕ, Bool, true, false, List, [], length, Some, None, refl, sym, ◌∙◌, subst, inl, inr}
use Rattle.json_forms.specs.Lines.{line}
use Rattle.json_host.specs.Replies.{opened_data}
use Rattle.cli_shell.specs.Sink.{SinkView, Adds}
use Rattle.cli_shell.specs.Source.{SourceView}
use Rattle.cli_shell.specs.declared.status.Ended.{Ended}
use Rattle.cli_shell.specs.declared.status.Ended.TheVariants.{Refused, Shell}
use Rattle.cli_shell.specs.declared.status.Refusal.TheVariants as refusals
use Rattle.cli_shell.specs.declared.status.ShellStatus.{ShellStatus}
use Rattle.cli_shell.specs.declared.status.ShellStatus.TheVariants as shells
use Rattle.host_session.specs.Lines.{LosesLine, TakesNext}
use Rattle.host_session.specs.Meaning.{HostedMeaning}
use Rattle.host_session.specs.Talking.{Talks, stand}
use Rattle.host_session.specs.declared.session.Session.{Session}
use Rattle.cli_serve.specs.Conversing.{Converses, IsUntold, Place, ServesDescription, ServesHost, ServesLine, ServesSession, place}
use Rattle.cli_serve.specs.Description.{IsDescription, description_fits}
use Rattle.cli_serve.specs.declared.description.HostDescription.{HostDescription}

module _ {W : Type 0} (means : HostedMeaning W) where
  -- the host was told that its session is open
  pub greeted : (ended : Ended) (old new : Session W) (unread left : List ℕ) (before after : SourceView) (sink told sink_after : SinkView) →
      Adds sink (line (opened_data (length old.seats.items))) told → Talks means ended (stand old unread before told) (stand new left after sink_after) →
      ServesSession means old ended (place unread before sink) (place left after sink_after)
  greeted ended old new unread left before after sink told sink_after writes talks =
      inl (record { greeted = told; writes = writes; left = new; talks = talks })

  -- it wasn't
  pub mute : (status : ShellStatus) (session : Session W) (unread : List ℕ) (before : SourceView) (sink sink_after : SinkView) → IsUntold (length session.seats.items) status sink sink_after →
      ServesSession means session (Shell status) (place unread before sink) (place unread before sink_after)
  mute status session unread before sink sink_after h = inr (h, refl)

-- a description is within its limits, and its host is served
pub served : (d : HostDescription) (fits : Bool) (ended : Ended) (old new : Place) → fits ≡ description_fits d → fits ≡ true → ServesHost d ended old new →
    ServesDescription d ended old new
served d fits ended old new is so h = inr (sym is ∙ so, inl h)

-- it is within its limits, and there is no memory for its session
pub no_session : (d : HostDescription) (fits : Bool) (old new : Place) → fits ≡ description_fits d → fits ≡ true → new ≡ old →
    ServesDescription d (Shell shells.OutOfMemory) old new
no_session d fits old new is so stays = inr (sym is ∙ so, inr (refl, stays))

-- it passes one
pub too_large : (d : HostDescription) (fits : Bool) (old : Place) → fits ≡ description_fits d → fits ≡ false →
    ServesDescription d (Refused refusals.TooLarge) old old
too_large d fits old is not_so = inl (sym is ∙ not_so, refl, refl)

-- the first line is no description
pub no_description : (first : List ℕ) (old : Place) → ((d : HostDescription) → IsDescription first d → ⊥) → ServesLine first (Refused refusals.BadScript) old old
no_description first old none = inr (inl (refl, none, refl))

-- there is no memory to read it
pub no_memory : (first : List ℕ) (old : Place) → ServesLine first (Shell shells.OutOfMemory) old old
no_memory first old = inr (inr (refl, refl))

-- a description is read
pub described : (first : List ℕ) (d : HostDescription) (ended : Ended) (old new : Place) → IsDescription first d → ServesDescription d ended old new →
    ServesLine first ended old new
described first d ended old new is h = inl (d, is, h)

-- the first line is taken, where nothing was unread
pub took_first : (ended : Ended) (none first unread left : List ℕ) (before mid after : SourceView) (old new : SinkView) → none ≡ [] →
    TakesNext none before (Some first) unread mid → ServesLine first ended (place unread mid old) (place left after new) → Converses ended before after old new
took_first ended none first unread left before mid after old new empty takes h = record {
  unread = left;
  goes = inr (record {
    first = first;
    mid = place unread mid old;
    takes = subst (λ (n : List ℕ). TakesNext n before (Some first) unread mid) empty takes;
    sink = refl;
    serves = h;
  });
}

-- there is none
pub no_first : (none left : List ℕ) (before after : SourceView) (sink : SinkView) → none ≡ [] → TakesNext none before None left after →
    Converses (Refused refusals.BadScript) before after sink sink
no_first none left before after sink empty ends =
    record { unread = left; goes = inl (subst (λ (n : List ℕ). TakesNext n before None left after) empty ends, refl) }

-- it can't be read
pub lost_first : (status : ShellStatus) (none : List ℕ) (before after : SourceView) (sink : SinkView) → none ≡ [] → LosesLine none status before after →
    Converses (Shell status) before after sink sink
lost_first status none before after sink empty lost =
    record { unread = []; goes = inl (subst (λ (n : List ℕ). LosesLine n status before after) empty lost, refl) }

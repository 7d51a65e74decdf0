-- A conversation, turn by turn.
use Rattle.std.proofs.Common.{◌≡◌, ℕ, ◌+◌, ◌-◌, ◌^◌, ◌++◌, ◌∷◌, List, [], length, Some, None, refl, ◌∙◌, subst, inl, inr, arith, length-append}
use Rattle.smithy_types.specs.Chain.{Chained}
use Rattle.smithy_types.proofs.ChainLemmas.{chained_more}
use Rattle.cli_shell.specs.Sink.{SinkView, Adds, AddsFront}
use Rattle.cli_shell.specs.Source.{SourceView, Rose}
use Rattle.cli_shell.specs.declared.status.Ended.{Ended}
use Rattle.cli_shell.specs.declared.status.Ended.TheVariants.{Printed, Shell}
use Rattle.cli_shell.specs.declared.status.PrintStatus.TheVariants as outcomes
use Rattle.cli_shell.specs.declared.status.ShellStatus.{ShellStatus}
use Rattle.cli_shell.specs.declared.status.ShellStatus.TheVariants as shells
use Rattle.host_session.specs.Feeding.{Feeds}
use Rattle.host_session.specs.Meaning.{HostedMeaning}
use Rattle.host_session.specs.declared.session.Fed.{Fed}
use Rattle.host_session.specs.declared.session.Fed.TheVariants.{Open, Closed}
use Rattle.host_session.specs.declared.session.Session.{Session}
use Rattle.host_session.specs.Lines.{LosesLine, TakesNext}
use Rattle.host_session.specs.Talking.{Breaks, Goes, IsTold, Stand, Stops, Talks, Turns, Untold, stand}

module _ {W : Type 0} (means : HostedMeaning W) where
  -- behind no text, this was told of a line
  pub told : (line : List ℕ) (old : Session W) (before : SinkView) (come : Fed) (new : Session W) (after : SinkView) (none text : List ℕ) → none ≡ [] →
      Feeds means line old none new text come → Adds before text after → IsTold means line old before come new after
  told line old before come new after none text empty feeds writes = record {
    told = text;
    feeds = subst (λ (n : List ℕ). Feeds means line old n new text come) empty feeds;
    writes = writes;
  }

  -- behind no text, a front of this was told
  pub lost : (line : List ℕ) (old : Session W) (before : SinkView) (come : Fed) (new : Session W) (after : SinkView) (none text : List ℕ) → none ≡ [] →
      Feeds means line old none new text come → AddsFront before text after → Rose before.faults after.faults →
      Untold means shells.WriteFault line old before new after
  unfolding Untold
  lost line old before come new after none text empty feeds front fault = record {
    told = text;
    come = come;
    feeds = subst (λ (n : List ℕ). Feeds means line old n new text come) empty feeds;
    front = front;
    fault = fault;
  }

  -- there is no memory to tell of it
  pub no_memory : (line : List ℕ) (old new : Session W) (sink : SinkView) → Untold means shells.OutOfMemory line old sink new sink
  unfolding Untold
  no_memory line old new sink = refl

  -- a line is taken, and told of
  pub turned : (come : Fed) (old new : Session W) (unread left line : List ℕ) (source source_after : SourceView) (sink sink_after : SinkView) →
      TakesNext unread source (Some line) left source_after → IsTold means line old sink come new sink_after →
      Goes means (Some come) (stand old unread source sink) (stand new left source_after sink_after)
  unfolding Goes
  turned come old new unread left line source source_after sink sink_after takes tells = (line, record { takes = takes; tells = tells })

  -- there is no line
  pub ended : (old : Session W) (unread left : List ℕ) (source source_after : SourceView) (sink : SinkView) →
      TakesNext unread source None left source_after → Goes means None (stand old unread source sink) (stand old left source_after sink)
  unfolding Goes
  ended old unread left source source_after sink ends = record { ends = ends; session = refl; sink = refl }

  -- a line can't be read
  pub not_read : (status : ShellStatus) (old : Session W) (unread left : List ℕ) (source source_after : SourceView) (sink : SinkView) →
      LosesLine unread status source source_after → Breaks means status (stand old unread source sink) (stand old left source_after sink)
  unfolding Breaks LosesLine
  not_read shells.ReadFault old unread left source source_after sink lost = (lost, refl, refl)
  not_read shells.LongInput old unread left source source_after sink lost = (lost, refl, refl)
  not_read shells.OutOfMemory old unread left source source_after sink lost = refl
  not_read shells.WriteFault old unread left source source_after sink lost = absurd lost
  not_read shells.BadWords old unread left source source_after sink lost = absurd lost

  -- a line was taken, and nothing or not all was told of it
  pub not_told : (status : ShellStatus) (old new : Session W) (unread left line : List ℕ) (source source_after : SourceView) (sink sink_after : SinkView) →
      TakesNext unread source (Some line) left source_after → Untold means status line old sink new sink_after →
      Breaks means status (stand old unread source sink) (stand new left source_after sink_after)
  unfolding Breaks Untold
  not_told shells.WriteFault old new unread left line source source_after sink sink_after takes untold = (line, takes, untold)
  not_told shells.OutOfMemory old new unread left line source source_after sink sink_after takes untold = untold
  not_told shells.ReadFault old new unread left line source source_after sink sink_after takes untold = absurd untold
  not_told shells.LongInput old new unread left line source source_after sink sink_after takes untold = absurd untold
  not_told shells.BadWords old new unread left line source source_after sink sink_after takes untold = absurd untold

  -- so many lines were told of
  pub record Told (count : ℕ) (old new : Stand W) : Type 0 where
    pub lines : List (List ℕ)
    pub turns : Chained (Turns means Open) old lines new
    pub count_is : length lines ≡ count

  pub told_none : (old : Stand W) → Told 0 old old
  told_none old = record { lines = []; turns = refl; count_is = refl }

  pub told_more : (count : ℕ) (old mid new : Stand W) → Told count old mid → Goes means (Some Open) mid new → Told (count + 1) old new
  unfolding Goes
  told_more count old mid new t (line, turn) = record {
    lines = t.lines ++ line ∷ [];
    turns = chained_more (Turns means Open) old mid new t.lines line t.turns turn;
    count_is = omega (arith, length-append t.lines (line ∷ []), t.count_is);
  }

  stopped : (count : ℕ) (old mid new : Stand W) (end : Ended) → Told count old mid → ((lines : ℕ) → Stops means end lines mid new) → Talks means end old new
  stopped count old mid new end t stops = record { lines = t.lines; last = mid; turns = t.turns; stops = stops (length t.lines) }

  -- the source is at its end
  pub stopped_end : (count : ℕ) (old mid new : Stand W) → Told count old mid → Goes means None mid new → Talks means (Printed outcomes.Ok) old new
  stopped_end count old mid new t goes = stopped count old mid new (Printed outcomes.Ok) t (λ _. (refl, inl goes))

  -- a line closed the session
  pub stopped_closed : (count : ℕ) (old mid new : Stand W) → Told count old mid → Goes means (Some Closed) mid new → Talks means (Printed outcomes.Ok) old new
  stopped_closed count old mid new t goes = stopped count old mid new (Printed outcomes.Ok) t (λ _. (refl, inr (inl goes)))

  pub broken_by : (status : ShellStatus) (count : ℕ) (old mid new : Stand W) → Told count old mid → Breaks means status mid new → Talks means (Shell status) old new
  broken_by status count old mid new t breaks = stopped count old mid new (Shell status) t (λ _. breaks)

  -- no number is left for a further line
  pub stopped_full : (count : ℕ) (old new : Stand W) → count ≡ 2 ^ 64 - 1 → Told count old new → Talks means (Printed outcomes.Ok) old new
  stopped_full count old new full t =
      record { lines = t.lines; last = new; turns = t.turns; stops = (refl, inr (inr (t.count_is ∙ full, refl))) }

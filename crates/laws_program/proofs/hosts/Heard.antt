-- What a host hears of its lines, as the bytes alone tell it.
use Rattle.std.proofs.Common.{◌≡◌, ◌⊎◌, inl, inr, refl, sym, ap, subst, ℕ, ◌^◌, ◌-◌, true, false, List, [], ◌∷◌, ◌++◌, length, Option, None, Some}
use Rattle.cli_serve.specs.Description.{IsDescription, description_fits}
use Rattle.cli_serve.specs.declared.description.HostDescription.{HostDescription}
use Rattle.cli_shell.specs.Determined.{is_answer}
use Rattle.cli_shell.specs.Sink.{SinkView}
use Rattle.cli_shell.specs.declared.status.Ended.{Ended}
use Rattle.cli_shell.specs.declared.status.Ended.TheVariants.{Printed, Refused, Shell}
use Rattle.cli_shell.specs.declared.status.PrintStatus.TheVariants as outcomes
use Rattle.cli_shell.specs.declared.status.Refusal.{Refusal}
use Rattle.cli_shell.specs.declared.status.Refusal.TheVariants as refusals
use Rattle.cli_shell.specs.declared.status.ShellStatus.{ShellStatus}
use Rattle.cli_shell.specs.declared.status.ShellStatus.TheVariants as shells
use Rattle.host_session.specs.Feeding.{Feeds}
use Rattle.host_session.specs.Lines.{LosesLine}
use Rattle.host_session.specs.Meaning.{HostedMeaning}
use Rattle.host_session.specs.Talking.{Breaks, Ends, Goes, Stand, Stops, Turns}
use Rattle.host_session.specs.declared.session.Fed.{Fed}
use Rattle.host_session.specs.declared.session.Fed.TheVariants.{Open, Closed}
use Rattle.host_session.specs.declared.session.Session.{Session}
use Rattle.json_forms.specs.Lines.{line}
use Rattle.json_host.specs.Replies.{opened_data}
use Rattle.smithy_types.specs.Chain.{Chained}
use Rattle.laws_program.proofs.hosts.Cuts.{Cut, Holds, ended, lost_long, took}
use Rattle.laws_program.proofs.hosts.Spoken.{AtEnd, BreaksOff, Closes, Full, IsStopped, Long, Speaks, Stop}
use Rattle.laws_program.proofs.hosts.Written.{Adding, adding, adding_more, adding_none}

-- how a status stands for a stop behind so many lines
abbrev pub EndsBy : Ended → ℕ → Stop → Type 0
EndsBy ended lines AtEnd = ended ≡ Printed outcomes.Ok
EndsBy ended lines Closes = ended ≡ Printed outcomes.Ok
EndsBy ended lines Full = lines ≡ 2 ^ 64 - 1
EndsBy ended lines Long = ended ≡ Shell shells.LongInput
EndsBy ended lines BreaksOff = is_answer ended ≡ false

-- why a first line is refused
abbrev pub RefusesFirst : List ℕ → Refusal → Type 0
RefusesFirst first reason =
    ((reason ≡ refusals.BadScript) × ((d : HostDescription) → IsDescription first d → ⊥))
    ⊎ ((reason ≡ refusals.TooLarge) × ((d : HostDescription) × IsDescription first d × (description_fits d ≡ false)))

module _ {W : Type 0} (means : HostedMeaning W) (opens : HostDescription → Session W → Type 0) where
  -- a session is opened of this line
  pub record OpensOf (first : List ℕ) (session : Session W) (told : List ℕ) (come : Fed) : Type 0 where
    pub description : HostDescription
    pub is : IsDescription first description
    pub fits : description_fits description ≡ true
    pub opened : opens description session
    pub told_is : told ≡ line (opened_data (length session.seats.items))
    pub come_is : come ≡ Open

  -- before the first line there is no session
  abbrev pub Hears : List ℕ → Option (Session W) → Option (Session W) → List ℕ → Fed → Type 0
  Hears bytes None None told come = ((reason : Refusal) × RefusesFirst bytes reason) × (told ≡ []) × (come ≡ Closed)
  Hears bytes None (Some new) told come = OpensOf bytes new told come
  Hears bytes (Some old) None told come = ⊥
  Hears bytes (Some old) (Some new) told come = Feeds means bytes old [] new told come

  -- how a conversation stops, and what it wrote to that end
  pub record Stopped (end : Ended) (lines : ℕ) (old : Option (Session W)) (bytes : List ℕ) (before after : SinkView) : Type 0 where
    pub stop : Stop
    pub text : List ℕ
    pub stops : IsStopped Hears stop old bytes text
    pub adds : Adding before text after
    pub ends : EndsBy end lines stop

  module _ (lines : ℕ) (old new : Stand W) (kept : new.sink.is_lost ≡ false) (bytes : List ℕ) (holds : Holds old.unread old.source bytes) where
    abbrev StopsBy : Ended → Type 0
    StopsBy end = Stopped end lines (Some old.session) bytes old.sink new.sink

    at_end : Ends means old new → StopsBy (Printed outcomes.Ok)
    at_end e = record { stop = AtEnd; text = []; stops = (ended old.unread bytes old.source new.source e.ends holds, refl); adds = adding_none old.sink new.sink e.sink kept; ends = refl }

    closed : (l : List ℕ) → Turns means Closed old l new → StopsBy (Printed outcomes.Ok)
    closed l t =
        let cut = took old.unread l new.unread bytes old.source new.source t.takes holds in
        record {
          stop = Closes;
          text = t.tells.told;
          stops = (l, Some new.session, cut.behind, record { cut = cut.cut; fed = t.tells.feeds });
          adds = adding old.sink new.sink t.tells.told t.tells.writes kept;
          ends = refl;
        }

    printed : Goes means None old new ⊎ (Goes means (Some Closed) old new ⊎ ((lines ≡ 2 ^ 64 - 1) × (new ≡ old))) → StopsBy (Printed outcomes.Ok)
    unfolding Goes
    printed (inl e) = at_end e
    printed (inr (inl (l, t))) = closed l t
    printed (inr (inr (full, same))) = record { stop = Full; text = []; stops = refl; adds = adding_none old.sink new.sink (ap (λ (s : Stand W). s.sink) same) kept; ends = full }

    quietly : (status : ShellStatus) → is_answer (Shell status) ≡ false → new.sink ≡ old.sink → StopsBy (Shell status)
    quietly status fault same = record { stop = BreaksOff; text = []; stops = inl refl; adds = adding_none old.sink new.sink same kept; ends = fault }

    broken : (status : ShellStatus) → Breaks means status old new → StopsBy (Shell status)
    unfolding Breaks LosesLine
    broken shells.ReadFault (lost, session, sink) = quietly shells.ReadFault refl sink
    broken shells.LongInput ((came, taken, long), session, sink) = record {
      stop = Long;
      text = [];
      stops = (lost_long old.unread bytes came old.source new.source taken long holds, refl);
      adds = adding_none old.sink new.sink sink kept;
      ends = refl;
    }
    broken shells.WriteFault (l, takes, lost) =
        let cut = took old.unread l new.unread bytes old.source new.source takes holds in
        record {
          stop = BreaksOff;
          text = lost.front.0;
          stops = inr (record { line = l; come = lost.come; told = lost.told; new = Some new.session; behind = cut.behind; tells = record { cut = cut.cut; fed = lost.feeds }; front = (lost.front.1, lost.front.2) });
          adds = adding old.sink new.sink lost.front.0 lost.front.4 kept;
          ends = refl;
        }
    broken shells.OutOfMemory sink = quietly shells.OutOfMemory refl sink
    broken shells.BadWords h = absurd h

    stopped : (end : Ended) → Stops means end lines old new → StopsBy end
    stopped (Printed outcome) (ok, h) = subst (λ o. StopsBy (Printed o)) (sym ok) (printed h)
    stopped (Refused refusal) h = absurd h
    stopped (Shell status) h = broken status h

  -- what was told of some lines, and how it stopped
  pub record Heard (end : Ended) (count : ℕ) (lines : List (List ℕ)) (old : Option (Session W)) (bytes : List ℕ) (before after : SinkView) : Type 0 where
    pub stop : Stop
    pub text : List ℕ
    pub speaks : Speaks Hears lines stop old bytes text
    pub adds : Adding before text after
    pub ends : EndsBy end count stop

  -- one line more in front
  pub heard_more : (end : Ended) (count : ℕ) (lines : List (List ℕ)) (l told bytes behind : List ℕ) (old mid : Option (Session W)) (before greeted after : SinkView) → Cut bytes l behind → Hears l old mid told Open
      → Adding before told greeted → Heard end count lines mid behind greeted after → Heard end count (l ∷ lines) old bytes before after
  heard_more end count lines l told bytes behind old mid before greeted after cut fed adds h = record {
    stop = h.stop;
    text = told ++ h.text;
    speaks = record { told = told; mid = mid; behind = behind; tells = record { cut = cut; fed = fed }; more = h.text; goes = h.speaks; text_is = refl };
    adds = adding_more before greeted after told h.text adds h.adds;
    ends = h.ends;
  }

  pub heard : (end : Ended) (count : ℕ) (lines : List (List ℕ)) (old last new : Stand W) → Chained (Turns means Open) old lines last → Stops means end count last new → new.sink.is_lost ≡ false
      → (bytes : List ℕ) → Holds old.unread old.source bytes → Heard end count lines (Some old.session) bytes old.sink new.sink
  heard end count [] old last new same stops kept bytes holds =
      let s = stopped count old new kept bytes holds end (subst (λ (x : Stand W). Stops means end count x new) same stops) in
      record { stop = s.stop; text = s.text; speaks = s.stops; adds = s.adds; ends = s.ends }
  heard end count (l ∷ lines) old last new (mid, turn, rest) stops kept bytes holds =
      let cut = took old.unread l mid.unread bytes old.source mid.source turn.takes holds in
      let behind = heard end count lines mid last new rest stops kept cut.behind cut.holds in
      heard_more end count lines l turn.tells.told bytes cut.behind (Some old.session) (Some mid.session) old.sink mid.sink new.sink cut.cut turn.tells.feeds
      (adding old.sink mid.sink turn.tells.told turn.tells.writes behind.adds.kept) behind

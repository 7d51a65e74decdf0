-- Two conversations over the same bytes tell the same.
use Rattle.std.proofs.Common.{◌≡◌, ◌∙◌, inl, inr, refl, sym, ap, subst, ℕ, ◌^◌, ◌<◌, Bool, true, false, List, [], ◌∷◌, ◌++◌, length, Option, None, Some, is_some, append_assoc, arith}
use Rattle.std.proofs.lemmas.Bool.{false≢true}
use Rattle.cli_client.specs.Means.{NoClassifier, NoInterceptor, none, own_chain, own_ranked, own_says}
use Rattle.cli_serve.specs.Conversing.{Converses, Greets, IsMute, LacksLine, Place, ServesLine, TakesFirst, place}
use Rattle.cli_serve.specs.Description.{IsDescription, description_fits}
use Rattle.cli_serve.specs.Means.{hosted_means}
use Rattle.cli_serve.specs.Opening.{Opens, ServedClient}
use Rattle.cli_serve.specs.declared.description.HostDescription.{HostDescription}
use Rattle.cli_shell.specs.Determined.{is_answer}
use Rattle.cli_shell.specs.Sink.{SinkView}
use Rattle.cli_shell.specs.Source.{SourceView}
use Rattle.cli_shell.specs.declared.status.Ended.{Ended}
use Rattle.cli_shell.specs.declared.status.Ended.TheVariants.{Printed, Refused, Shell}
use Rattle.cli_shell.specs.declared.status.PrintStatus.TheVariants as outcomes
use Rattle.cli_shell.specs.declared.status.Refusal.{Refusal}
use Rattle.cli_shell.specs.declared.status.Refusal.TheVariants as refusals
use Rattle.cli_shell.specs.declared.status.ShellStatus.{ShellStatus}
use Rattle.cli_shell.specs.declared.status.ShellStatus.TheVariants as shells
use Rattle.client_builder.specs.declared.own_interceptor.OwnInterceptor.{OwnInterceptor}
use Rattle.client_scripted.specs.declared.service.error.ServiceError.{ServiceError}
use Rattle.host_session.specs.Lines.{LosesLine}
use Rattle.host_session.specs.Meaning.{HostedMeaning}
use Rattle.host_session.specs.declared.session.Fed.{Fed}
use Rattle.host_session.specs.declared.session.Fed.TheVariants.{Open}
use Rattle.host_session.specs.declared.session.Session.{Session}
use Rattle.json_forms.specs.Lines.{line}
use Rattle.json_host.specs.Messages.{IsMessage}
use Rattle.json_host.specs.Replies.{opened_data}
use Rattle.json_host.specs.declared.message.HostMessage.{HostMessage}
use Rattle.json_print.proofs.determined.Endings.{same_some}
use Rattle.retry_policy.specs.declared.classify.Classifier.{Classifier}
use Rattle.smithy_base.specs.declared.intercept.Slot.{Slot}
use Rattle.laws_determined.specs.Calls.Alike.{MaybeAlike}
use Rattle.laws_program.proofs.clients.Said.{slot_alike}
use Rattle.laws_program.proofs.hosts.Cuts.{Cut, Holds, ended, lost_long, no_cut, no_end, no_long, same_cut, took}
use Rattle.laws_program.proofs.clients.Each.{same_length}
use Rattle.laws_program.proofs.hosts.Heard.{EndsBy, Hears, OpensOf, RefusesFirst, heard, heard_more}
use Rattle.laws_program.proofs.hosts.Opened.{opened_alike}
use Rattle.laws_program.proofs.hosts.Seats.{SeatsAlike}
use Rattle.laws_program.proofs.hosts.Sessions.{SessionsAlike, fed_once}
use Rattle.laws_program.proofs.hosts.Spoken.{AtEnd, BreaksOff, Closes, Full, IsWhole, Long, OneTelling, Speaks, Stop, begin_alike, counted, is_long, not_whole, not_whole_other, open≢closed, two_fronts, wholes}
use Rattle.laws_program.proofs.hosts.Worlds.{BareAlike}
use Rattle.laws_program.proofs.hosts.Written.{Adding, adding, adding_none}
use Rattle.laws_program.specs.Hosts.Telling.{AlikeBegins, AlikeBy, AlikeOf, AlikeTalks, AreMessages, OneBeginsOther, OneEnd, OneTalk}

-- ---- the host of the program

abbrev OwnClient : Type 0
OwnClient = ServedClient (Classifier ServiceError NoClassifier none) (Slot OwnInterceptor NoInterceptor none)

abbrev own_means : HostedMeaning OwnClient
own_means = hosted_means own_says own_chain

abbrev OwnOpens : HostDescription → Session OwnClient → Type 0
OwnOpens d session = Opens {V = NoClassifier} {W = NoInterceptor} {v = none} {w = none} own_ranked d session

abbrev Told : List ℕ → Option (Session OwnClient) → Option (Session OwnClient) → List ℕ → Fed → Type 0
Told = Hears own_means OwnOpens

abbrev Alike : Option (Session OwnClient) → Option (Session OwnClient) → Type 0
Alike = MaybeAlike SessionsAlike

-- ---- one thing is told of a line

one_description : (first : List ℕ) (d e : HostDescription) → IsDescription first d → IsDescription first e → d ≡ e
one_description first d e s t = same_some d e (sym s.1 ∙ t.1)

unrefused : (first : List ℕ) (d : HostDescription) (reason : Refusal) → IsDescription first d → description_fits d ≡ true → RefusesFirst first reason → ⊥
unrefused first d reason is fits (inl (bad, not)) = not d is
unrefused first d reason is fits (inr (large, (e, it, unfit))) = false≢true (sym unfit ∙ ap description_fits (one_description first e d it is) ∙ fits)

opened_once : (first told text : List ℕ) (come came : Fed) (new more : Session OwnClient) → OpensOf own_means OwnOpens first new told come → OpensOf own_means OwnOpens first more text came → OneTelling Alike (AlikeOf false first) told text come came (Some new) (Some more)
opened_once first told text come came new more s t =
    let same = one_description first s.description t.description s.is t.is in
    let left = opened_alike own_ranked s.description new more s.opened (subst (λ d. OwnOpens d more) (sym same) t.opened) in
    record {
      told_is = s.told_is ∙ ap (λ n. line (opened_data n)) (same_length (SeatsAlike BareAlike) new.seats.items more.seats.items left.seats) ∙ sym t.told_is;
      come_is = s.come_is ∙ sym t.come_is;
      left = left;
    }

told_once : (bytes : List ℕ) (old two new more : Option (Session OwnClient)) (told text : List ℕ) (come came : Fed) → Alike old two → Told bytes old new told come → Told bytes two more text came → OneTelling Alike (AlikeOf (is_some old) bytes) told text come came new more
told_once bytes None None None None told text come came alike s t = record { told_is = s.1 ∙ sym t.1; come_is = s.2 ∙ sym t.2; left = tt }
told_once bytes None None None (Some more) told text come came alike s t = absurd (unrefused bytes t.description s.0.0 t.is t.fits s.0.1)
told_once bytes None None (Some new) None told text come came alike s t = absurd (unrefused bytes s.description t.0.0 s.is s.fits t.0.1)
told_once bytes None None (Some new) (Some more) told text come came alike s t = opened_once bytes told text come came new more s t
told_once bytes None (Some two) new more told text come came alike s t = absurd alike
told_once bytes (Some old) None new more told text come came alike s t = absurd alike
told_once bytes (Some old) (Some two) None more told text come came alike s t = absurd s
told_once bytes (Some old) (Some two) (Some new) None told text come came alike s t = absurd t
told_once bytes (Some old) (Some two) (Some new) (Some more) told text come came alike s t =
    let one = fed_once own_says own_chain slot_alike bytes old two new more told text come came alike s t in
    record { told_is = one.told_is; come_is = one.come_is; left = one.left }

-- behind a line that is fed there is a session
goes_on : (line : List ℕ) (old new : Option (Session OwnClient)) (told : List ℕ) → Told line old new told Open → is_some new ≡ true
goes_on line None None told s = absurd (open≢closed s.2)
goes_on line None (Some new) told s = refl
goes_on line (Some old) None told s = absurd s
goes_on line (Some old) (Some new) told s = refl

-- ---- a whole conversation

-- how a status stands for a stop
abbrev Means : Ended → List (List ℕ) → Stop → List ℕ → Type 0
Means end (first ∷ lines) stop bytes = EndsBy end (length lines) stop
Means end [] AtEnd bytes = end ≡ Refused refusals.BadScript
Means end [] Closes bytes = (first : List ℕ) × (behind : List ℕ) × (reason : Refusal) × Cut bytes first behind × RefusesFirst first reason × (end ≡ Refused reason)
Means end [] Full bytes = ⊥
Means end [] Long bytes = end ≡ Shell shells.LongInput
Means end [] BreaksOff bytes = is_answer end ≡ false

record Conversed (end : Ended) (bytes : List ℕ) (before after : SinkView) : Type 0 where
  lines : List (List ℕ)
  stop : Stop
  text : List ℕ
  speaks : Speaks Told lines stop None bytes text
  adds : Adding before text after
  means : Means end lines stop bytes

module _ (bytes : List ℕ) (before : SourceView) (holds : Holds [] before bytes) (old new : SinkView) (kept : new.is_lost ≡ false) where
  -- nothing is told
  silent : (status : ShellStatus) → is_answer (Shell status) ≡ false → new ≡ old → Conversed (Shell status) bytes old new
  silent status fault same = record { lines = []; stop = BreaksOff; text = []; speaks = inl refl; adds = adding_none old new same kept; means = fault }

  lost : (after : SourceView) (status : ShellStatus) → LosesLine [] status before after → new ≡ old → Conversed (Shell status) bytes old new
  unfolding LosesLine
  lost after shells.ReadFault h same = silent shells.ReadFault refl same
  lost after shells.LongInput (came, taken, long) same = record {
    lines = [];
    stop = Long;
    text = [];
    speaks = (lost_long [] bytes came before after taken long holds, refl);
    adds = adding_none old new same kept;
    means = refl;
  }
  lost after shells.OutOfMemory h same = silent shells.OutOfMemory refl same
  lost after shells.BadWords h same = absurd h
  lost after shells.WriteFault h same = absurd h

  lacks : (unread : List ℕ) (after : SourceView) (end : Ended) → LacksLine end (place [] before old) (place unread after new) → Conversed end bytes old new
  lacks unread after (Refused refusals.BadScript) (ends, same) = record {
    lines = [];
    stop = AtEnd;
    text = [];
    speaks = (ended [] bytes before after ends holds, refl);
    adds = adding_none old new same kept;
    means = refl;
  }
  lacks unread after (Refused refusals.TooLarge) h = absurd h
  lacks unread after (Refused refusals.NotBuilt) h = absurd h
  lacks unread after (Printed outcome) h = absurd h
  lacks unread after (Shell status) (h, same) = lost after status h same

  module _ (first behind : List ℕ) (cut : Cut bytes first behind) where
    refused : (reason : Refusal) → RefusesFirst first reason → new ≡ old → Conversed (Refused reason) bytes old new
    refused reason why same = record {
      lines = [];
      stop = Closes;
      text = [];
      speaks = (first, None, behind, record { cut = cut; fed = ((reason, why), refl, refl) });
      adds = adding_none old new same kept;
      means = (first, behind, reason, cut, why, refl);
    }

    module _ (d : HostDescription) (is : IsDescription first d) (fits : description_fits d ≡ true) (session : Session OwnClient) (opened : OwnOpens d session) where
      greeting : OpensOf own_means OwnOpens first session (line (opened_data (length session.seats.items))) Open
      greeting = record { description = d; is = is; fits = fits; opened = opened; told_is = refl; come_is = refl }

      greets : (end : Ended) (from to : Place) → from.sink ≡ old → to.sink ≡ new → Holds from.unread from.source behind → Greets own_means session end from to → Conversed end bytes old new
      greets end from to at onto left h =
          let talk = heard own_means OwnOpens end (length h.talks.lines) h.talks.lines (record { session = session; unread = from.unread; source = from.source; sink = h.greeted }) h.talks.last
          (record { session = h.left; unread = to.unread; source = to.source; sink = to.sink }) h.talks.turns h.talks.stops (ap (λ (s : SinkView). s.is_lost) onto ∙ kept) behind left in
          let adds = adding from.sink h.greeted (line (opened_data (length session.seats.items))) h.writes talk.adds.kept in
          let whole = heard_more own_means OwnOpens end (length h.talks.lines) h.talks.lines first (line (opened_data (length session.seats.items))) bytes behind None (Some session) old h.greeted new cut greeting
          (subst (λ (s : SinkView). Adding s (line (opened_data (length session.seats.items))) h.greeted) at adds)
          (record { stop = talk.stop; text = talk.text; speaks = talk.speaks; adds = subst (λ (s : SinkView). Adding h.greeted talk.text s) onto talk.adds; ends = talk.ends }) in
          record { lines = first ∷ h.talks.lines; stop = whole.stop; text = whole.text; speaks = whole.speaks; adds = whole.adds; means = whole.ends }

      mute : (end : Ended) (from to : Place) → from.sink ≡ old → to.sink ≡ new → IsMute (length session.seats.items) end from to → Conversed end bytes old new
      mute (Shell shells.WriteFault) from to at onto ((front, fault), same) = record {
        lines = [];
        stop = BreaksOff;
        text = front.0;
        speaks = inr (record { line = first; come = Open; told = line (opened_data (length session.seats.items)); new = Some session; behind = behind; tells = record { cut = cut; fed = greeting }; front = (front.1, front.2) });
        adds = subst (λ (s : SinkView). Adding s front.0 new) at (subst (λ (s : SinkView). Adding from.sink front.0 s) onto (adding from.sink to.sink front.0 front.4 (ap (λ (s : SinkView). s.is_lost) onto ∙ kept)));
        means = refl;
      }
      mute (Shell shells.OutOfMemory) from to at onto (untold, same) = silent shells.OutOfMemory refl (sym onto ∙ untold ∙ at)
      mute (Shell shells.ReadFault) from to at onto (untold, same) = absurd untold
      mute (Shell shells.LongInput) from to at onto (untold, same) = absurd untold
      mute (Shell shells.BadWords) from to at onto (untold, same) = absurd untold
      mute (Printed outcome) from to at onto h = absurd h
      mute (Refused refusal) from to at onto h = absurd h

    out_of_memory : (end : Ended) → end ≡ Shell shells.OutOfMemory → new ≡ old → Conversed end bytes old new
    out_of_memory end is same = subst (λ e. Conversed e bytes old new) (sym is) (silent shells.OutOfMemory refl same)

    serves : (end : Ended) (from to : Place) → from.sink ≡ old → to.sink ≡ new → Holds from.unread from.source behind → ServesLine first end from to → Conversed end bytes old new
    serves end from to at onto left (inl (d, is, inl (unfit, large, same))) =
        subst (λ e. Conversed e bytes old new) (sym large) (refused refusals.TooLarge (inr (refl, (d, is, unfit))) (sym onto ∙ ap (λ (p : Place). p.sink) same ∙ at))
    serves end from to at onto left (inl (d, is, inr (fits, inl host))) = elim host.serves as (λ _. Conversed end bytes old new) [
      | inl h ↦ greets d is fits host.session host.is_opened end from to at onto left h
      | inr h ↦ mute d is fits host.session host.is_opened end from to at onto h
    ]
    serves end from to at onto left (inl (d, is, inr (fits, inr (e, same)))) = out_of_memory end e (sym onto ∙ ap (λ (p : Place). p.sink) same ∙ at)
    serves end from to at onto left (inr (inl (bad, not, same))) =
        subst (λ e. Conversed e bytes old new) (sym bad) (refused refusals.BadScript (inl (refl, not)) (sym onto ∙ ap (λ (p : Place). p.sink) same ∙ at))
    serves end from to at onto left (inr (inr (e, same))) = out_of_memory end e (sym onto ∙ ap (λ (p : Place). p.sink) same ∙ at)

  takes : (end : Ended) (unread : List ℕ) (after : SourceView) → TakesFirst end (place [] before old) (place unread after new) → Conversed end bytes old new
  takes end unread after h =
      let cut = took [] h.first h.mid.unread bytes before h.mid.source h.takes holds in
      serves h.first cut.behind cut.cut end h.mid (place unread after new) h.sink refl cut.holds h.serves

conversed : (bytes : List ℕ) (end : Ended) (before after : SourceView) (old new : SinkView) → before.left ≡ Some bytes → new.is_lost ≡ false → Converses end before after old new → Conversed end bytes old new
conversed bytes end before after old new left kept h =
    let holds : Holds [] before bytes = record { rest = bytes; left = left; whole = refl } in
    elim h.goes as (λ _. Conversed end bytes old new) [
      | inl lacking ↦ lacks bytes before holds old new kept h.unread after end lacking
      | inr taken ↦ takes bytes before holds old new kept end h.unread after taken
    ]

-- ---- two of them

pub alike_begins : AlikeBegins
alike_begins bytes written first second before after begun later old new start end a b o u k l s t =
    let one = conversed bytes first before after old new a k s in
    let two = conversed bytes second begun later start end b l t in
    let on = begin_alike Told is_some goes_on Alike told_once one.lines two.lines one.stop two.stop None None bytes one.text two.text tt one.speaks two.speaks in (
      one.text,
      two.text,
      record { first = one.adds.written written o; second = two.adds.written written u },
      record { more = on.more; rest = on.rest; alike = (on.lines, on.alike) },
    )

-- where nothing broke it off, a conversation is whole
whole : (end : Ended) (bytes text : List ℕ) (lines : List (List ℕ)) (stop : Stop) → length bytes < 2 ^ 64 → is_answer end ≡ true → Speaks Told lines stop None bytes text → Means end lines stop bytes → IsWhole stop
whole end bytes text [] AtEnd short answers s m = tt
whole end bytes text [] Closes short answers s m = tt
whole end bytes text [] Full short answers s m = m
whole end bytes text [] Long short answers s m = tt
whole end bytes text [] BreaksOff short answers s m = false≢true (sym m ∙ answers)
whole end bytes text (first ∷ lines) AtEnd short answers s m = tt
whole end bytes text (first ∷ lines) Closes short answers s m = tt
whole end bytes text (first ∷ lines) Full short answers s m = let count = counted Told (first ∷ lines) Full None bytes text s in omega (arith, count, short, m)
whole end bytes text (first ∷ lines) Long short answers s m = tt
whole end bytes text (first ∷ lines) BreaksOff short answers s m = false≢true (sym m ∙ answers)

pub alike_talks : AlikeTalks
alike_talks bytes written first second before after begun later old new start end short a b o u k l p q s t =
    let one = conversed bytes first before after old new a k s in
    let two = conversed bytes second begun later start end b l t in
    let whole_of = wholes Told is_some goes_on Alike told_once one.lines two.lines one.stop two.stop None None bytes one.text two.text
    (whole first bytes one.text one.lines one.stop short p one.speaks one.means) (whole second bytes two.text two.lines two.stop short q two.speaks two.means) tt one.speaks two.speaks in (
      one.text,
      two.text,
      record { first = one.adds.written written o; second = two.adds.written written u },
      (whole_of.lines, whole_of.texts),
    )

-- ---- over messages

behind_line : (bytes front rest line behind : List ℕ) → bytes ≡ front ++ 10 ∷ rest → rest ≡ line ++ 10 ∷ behind → bytes ≡ (front ++ 10 ∷ line) ++ 10 ∷ behind
behind_line bytes front rest line behind whole is = whole ∙ ap (λ x. front ++ 10 ∷ x) is ∙ sym (append_assoc front (10 ∷ line) (10 ∷ behind))

told_same : (line told text : List ℕ) (m : HostMessage) → IsMessage line m → AlikeOf true line told text → told ≡ text
told_same line told text m is (inl same) = same
told_same line told text m is (inr why) = absurd (why.none m is)

same_behind : (bytes : List ℕ) → AreMessages bytes → (lines : List (List ℕ)) (front rest one other : List ℕ) → bytes ≡ front ++ 10 ∷ rest → AlikeBy true lines rest one other → one ≡ other
same_behind bytes messages [] front rest one other whole alike = alike.0 ∙ sym alike.1
same_behind bytes messages (line ∷ lines) front rest one other whole alike =
    let place = behind_line bytes front rest line alike.behind whole alike.begins in
    let message = messages front line alike.behind place alike.whole in
    let told = told_same line alike.told alike.text message.0 message.1 alike.alike in
    let more = same_behind bytes messages lines (front ++ 10 ∷ line) alike.behind alike.more alike.rest place alike.goes in
    alike.one_is ∙ (λ i. told i ++ more i) ∙ sym alike.other_is

-- two texts over messages that are alike are the same
same_text : (bytes one other : List ℕ) → AreMessages bytes → (lines : List (List ℕ)) → AlikeBy false lines bytes one other → one ≡ other
same_text bytes one other messages [] alike = alike.0 ∙ sym alike.1
same_text bytes one other messages (line ∷ lines) alike =
    let more = same_behind bytes messages lines line alike.behind alike.more alike.rest alike.begins alike.goes in
    alike.one_is ∙ (λ i. alike.alike i ++ more i) ∙ sym alike.other_is

pub one_begins_other : OneBeginsOther
one_begins_other bytes written first second before after begun later old new start end messages a b o u k l s t =
    let both = alike_begins bytes written first second before after begun later old new start end a b o u k l s t in
    let on = both.3 in
    (both.0, both.1, both.2, two_fronts both.0 both.1 on.more on.rest (same_text bytes (both.0 ++ on.more) (both.1 ++ on.rest) messages on.alike.0 on.alike.1))

pub one_talk : OneTalk
one_talk bytes written first second before after begun later old new start end messages short a b o u k l p q s t =
    let both = alike_talks bytes written first second before after begun later old new start end short a b o u k l p q s t in
    both.2.first ∙ ap (λ text. Some (written ++ text)) (same_text bytes both.0 both.1 messages both.3.0 both.3.1) ∙ sym both.2.second

-- behind the first line, what a whole conversation ends with
abbrev ended_as : Bool → Ended
ended_as true = Shell shells.LongInput
ended_as false = Printed outcomes.Ok

printed : (end : Ended) (lines : ℕ) (stop : Stop) → IsWhole stop → EndsBy end lines stop → end ≡ ended_as (is_long stop)
printed end lines AtEnd w m = m
printed end lines Closes w m = m
printed end lines Full w m = absurd w
printed end lines Long w m = m
printed end lines BreaksOff w m = absurd w

one_reason : (first : List ℕ) (one two : Refusal) → RefusesFirst first one → RefusesFirst first two → one ≡ two
one_reason first one two (inl (bad, not)) (inl (worse, neither)) = bad ∙ sym worse
one_reason first one two (inl (bad, not)) (inr (large, (d, is, unfit))) = absurd (not d is)
one_reason first one two (inr (large, (d, is, unfit))) (inl (bad, not)) = absurd (not d is)
one_reason first one two (inr (large, (d, is, unfit))) (inr (larger, (e, it, over))) = large ∙ sym larger

-- no line of either is fed
unfed : (bytes a b : List ℕ) (first second : Ended) (stop end : Stop) → IsWhole stop → IsWhole end → Speaks Told [] stop None bytes a → Speaks Told [] end None bytes b → Means first [] stop bytes → Means second [] end bytes → first ≡ second
unfed bytes a b first second AtEnd AtEnd w v s t m n = m ∙ sym n
unfed bytes a b first second AtEnd Closes w v s t m n = absurd (no_cut bytes n.0 n.1 n.3 s.0)
unfed bytes a b first second AtEnd Full w v s t m n = absurd v
unfed bytes a b first second AtEnd Long w v s t m n = absurd (no_end bytes s.0 t.0)
unfed bytes a b first second AtEnd BreaksOff w v s t m n = absurd v
unfed bytes a b first second Closes AtEnd w v s t m n = absurd (no_cut bytes m.0 m.1 m.3 t.0)
unfed bytes a b first second Closes Closes w v s t m n =
    let same = (same_cut bytes m.0 n.0 m.1 n.1 m.3 n.3).0 in
    m.5 ∙ ap Refused (one_reason n.0 m.2 n.2 (subst (λ l. RefusesFirst l m.2) same m.4) n.4) ∙ sym n.5
unfed bytes a b first second Closes Full w v s t m n = absurd v
unfed bytes a b first second Closes Long w v s t m n = absurd (no_long bytes m.0 m.1 m.3 t.0)
unfed bytes a b first second Closes BreaksOff w v s t m n = absurd v
unfed bytes a b first second Full end w v s t m n = absurd w
unfed bytes a b first second Long AtEnd w v s t m n = absurd (no_end bytes t.0 s.0)
unfed bytes a b first second Long Closes w v s t m n = absurd (no_long bytes n.0 n.1 n.3 s.0)
unfed bytes a b first second Long Full w v s t m n = absurd v
unfed bytes a b first second Long Long w v s t m n = m ∙ sym n
unfed bytes a b first second Long BreaksOff w v s t m n = absurd v
unfed bytes a b first second BreaksOff end w v s t m n = absurd w

same_status : (bytes a b : List ℕ) (first second : Ended) (lines others : List (List ℕ)) (stop end : Stop) → IsWhole stop → IsWhole end → is_long stop ≡ is_long end → Speaks Told lines stop None bytes a → Speaks Told others end None bytes b
    → Means first lines stop bytes → Means second others end bytes → first ≡ second
same_status bytes a b first second [] [] stop end w v long s t m n = unfed bytes a b first second stop end w v s t m n
same_status bytes a b first second [] (l ∷ others) stop end w v long s t m n = absurd (not_whole Told is_some goes_on Alike told_once stop bytes a t.told l None None t.mid t.behind w tt s t.tells)
same_status bytes a b first second (l ∷ lines) [] stop end w v long s t m n = absurd (not_whole_other Told is_some goes_on Alike told_once end bytes b s.told l None None s.mid s.behind v tt s.tells t)
same_status bytes a b first second (l ∷ lines) (k ∷ others) stop end w v long s t m n = printed first (length lines) stop w m ∙ ap ended_as long ∙ sym (printed second (length others) end v n)

pub one_end : OneEnd
one_end bytes first second before after begun later old new start end short a b k l p q s t =
    let one = conversed bytes first before after old new a k s in
    let two = conversed bytes second begun later start end b l t in
    let w = whole first bytes one.text one.lines one.stop short p one.speaks one.means in
    let v = whole second bytes two.text two.lines two.stop short q two.speaks two.means in
    let same = wholes Told is_some goes_on Alike told_once one.lines two.lines one.stop two.stop None None bytes one.text two.text w v tt one.speaks two.speaks in
    same_status bytes one.text two.text first second one.lines two.lines one.stop two.stop w v same.long_is one.speaks two.speaks one.means two.means

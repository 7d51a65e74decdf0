-- The cases of what a line makes of a session, and of what a message makes of a seat.
use Rattle.std.specs.Prelude.{◌≡◌, ◌⊎◌, ℕ, ◌<◌, ◌≤◌, true, List, [], ◌++◌, length, slice_get, slice_set, Option, Some, None}
use Rattle.std.proofs.Common.{refl, sym, ap, ◌∙◌, subst, inl, inr, get_or}
use Rattle.std.proofs.lemmas.Option.{slice_get_cases}
use Rattle.outside_scripted.specs.Wake.{IsNext}
use Rattle.outside_hosted.specs.Telling.{after_told, told_of}
use Rattle.outside_hosted.specs.declared.telling.Told.{Told}
use Rattle.rate_limit.specs.Pace.{Pace}
use Rattle.retry_quota.specs.Registers.{Registers}
use Rattle.run_grammar.specs.declared.answer.Entry.{Entry}
use Rattle.outside_hosted.specs.declared.events.HostEvent.{HostEvent}
use Rattle.smithy_types.specs.declared.kinds.StopPoint.{StopPoint}
use Rattle.smithy_types.specs.declared.payload.Payload.{Payload}
use Rattle.orchestrate.specs.Handing.{HandedOn}
use Rattle.run_driver.specs.Driving.{RunsThrough, Stretches}
use Rattle.run_driver.specs.Running.{Goes, IsOver}
use Rattle.run_driver.specs.declared.running.DrivenRun.{DrivenRun}
use Rattle.json_host.specs.Messages.{IsMessage}
use Rattle.json_forms.specs.Lines.{line}
use Rattle.json_host.specs.Replies.{poison_text, refused_data, told_text}
use Rattle.json_host.specs.declared.message.HostInvocation.{HostInvocation}
use Rattle.json_host.specs.declared.message.HostMessage.{HostMessage}
use Rattle.json_host.specs.declared.message.SeatMessage.{SeatMessage}
use Rattle.json_print.specs.Print.{ending_data}
use Rattle.json_print.specs.declared.ending.Ending.{Ending}
use Rattle.script_forms.specs.Refusal.{TellsNoMessage}
use Rattle.host_session.specs.declared.seat.Seat.{Seat}
use Rattle.host_session.specs.declared.seat.SeatRun.{SeatRun}
use Rattle.host_session.specs.declared.seat.SeatTerms.{SeatTerms}
use Rattle.host_session.specs.declared.session.Fed.{Fed}
use Rattle.host_session.specs.declared.session.Fed.TheVariants.{Open}
use Rattle.host_session.specs.declared.session.Session.{Session}
use Rattle.host_session.specs.declared.why.Why.{Why}
use Rattle.host_session.specs.declared.why.Why.TheVariants.{NoSeat}
use Rattle.host_session.specs.Ending.{EndsBy, done_data, given_up_data, log_text}
use Rattle.host_session.specs.Feeding.{Feeds, Meets, MeetsBy, Refuses, RefusesLine, TakesAt, lent}
use Rattle.host_session.specs.Meaning.{HostedMeaning}
use Rattle.host_session.specs.Refusing.{TellsWhy, refusal_at, refusal_by, why_text}
use Rattle.host_session.specs.Running.{Starts, calls_of, head_of}
use Rattle.host_session.specs.Seats.{Begins, Closes, Drives, GivesAnyUp, GoesOn, GoesOnAs, Rests, Takes, Waits, feeding}

some_none : (reason : Why) → Some reason ≡ None → ⊥
some_none reason e = absurd (cc e)

-- the line of a refusal, and what it tells
pub tells_why : (why before text : List ℕ) → TellsNoMessage why → text ≡ before ++ line (refused_data why) → TellsWhy before text
tells_why why before text tells is = record { why = why; tells = tells; text_is = is }

-- a message that is refused
pub refuses : {W : Type 0} (reason : Why) (old : Session W) (before text : List ℕ) (come : Fed) → text ≡ before ++ line (refused_data (why_text reason)) → come ≡ Open → Refuses reason old before old text come
refuses reason old before text come told stays = record { same = refl; text_is = told; stays = stays }

-- a run that made no call
pub starts : (i : HostInvocation) (terms : SeatTerms) (copy : Payload) (driven : DrivenRun) → copy ≡ i.input → driven.fuel ≡ i.fuel → ((log : List Entry) → Goes copy i.stop driven log log) →
    Starts i terms (record { driven = driven; head = head_of i terms; is_logged = i.is_logged })
starts i terms copy driven same fuel goes = record {
  head = refl;
  is_logged = refl;
  fuel = fuel;
  goes = subst (λ (p : Payload). (log : List Entry) → Goes p i.stop driven log log) same goes;
}

module _ {W : Type 0} (means : HostedMeaning W) where
  pub meets_refused : (found : Option Why) (reason : Why) (number : ℕ) (m : SeatMessage) (old : Session W) (before text : List ℕ) (come : Fed) →
      found ≡ Some reason → text ≡ before ++ line (refused_data (why_text reason)) → come ≡ Open → MeetsBy means found number m old before old text come
  meets_refused found reason number m old before text come is told stays =
      subst (λ (r : Option Why). MeetsBy means r number m old before old text come) (sym is) (refuses reason old before text come told stays)

  pub meets_taken : (found : Option Why) (number : ℕ) (m : SeatMessage) (old new : Session W) (before text : List ℕ) (come : Fed) →
      found ≡ None → TakesAt means number m old before new text → come ≡ Open → MeetsBy means found number m old before new text come
  meets_taken found number m old new before text come is taken stays =
      subst (λ (r : Option Why). MeetsBy means r number m old before new text come) (sym is) (taken, stays)

  -- a message that isn't refused is for a seat that is there
  pub is_there : (found : Option Why) (seats : List (Seat W)) (number : ℕ) (m : SeatMessage) → found ≡ refusal_at seats number m → found ≡ None → number < length seats
  is_there found seats number m is none =
      by_case (slice_get_cases seats number).1 where
        by_case : ((x : Seat W) × (number < length seats) × (slice_get seats number ≡ Some x) × (get_or seats number x ≡ x)) ⊎ ((length seats ≤ number) × (slice_get seats number ≡ None)) → number < length seats
        by_case (inl there) = there.1
        by_case (inr past) = absurd (some_none NoSeat (sym (ap (λ (s : Option (Seat W)). refusal_by s m) past.1) ∙ sym is ∙ none))

  -- a seat is lent the shared quota, takes a message, and gives it back
  pub takes_at : (place : ℕ) (m : SeatMessage) (old new : Session W) (seat after : Seat W) (given back : W) (own shared : Registers Pace) (before text : List ℕ) →
      slice_get old.seats.items place ≡ Some seat → given ≡ means.with_quota old.quota seat.world → own ≡ means.quota seat.world →
      Takes means m (record { world = given; run = seat.run; terms = seat.terms }) before after text →
      back ≡ means.with_quota own after.world → shared ≡ means.quota after.world →
      new.seats.items ≡ slice_set old.seats.items place (record { world = back; run = after.run; terms = after.terms }) → new.quota ≡ shared →
      TakesAt means place m old before new text
  takes_at place m old new seat after given back own shared before text stands is_given is_own taken is_back is_shared seats quota = record {
    seat = seat;
    stands = stands;
    after = after;
    takes = subst (λ (w : W). Takes means m (record { world = w; run = seat.run; terms = seat.terms }) before after text) is_given taken;
    seats = seats ∙ ap (λ (w : W). slice_set old.seats.items place (record { world = w; run = after.run; terms = after.terms }))
        (is_back ∙ ap (λ (q : Registers Pace). means.with_quota q after.world) is_own);
    quota = quota ∙ is_shared;
  }

  pub feeds_message : (bytes : List ℕ) (m : HostMessage) (old new : Session W) (before text : List ℕ) (come : Fed) →
      IsMessage bytes m → Meets means m old before new text come → Feeds means bytes old before new text come
  feeds_message bytes m old new before text come is met = inl (m, is, met)

  pub feeds_none : (bytes : List ℕ) (old : Session W) (before text : List ℕ) (come : Fed) →
      ((m : HostMessage) → IsMessage bytes m → ⊥) → TellsWhy before text → come ≡ Open →
      Feeds means bytes old before old text come
  feeds_none bytes old before text come none told stays = inr (none, record { same = refl; told = told; stays = stays })

  pub goes_on_some : (found : Option SeatRun) (run : SeatRun) (old : W) (terms : SeatTerms) (new : Seat W) (before text : List ℕ) →
      found ≡ Some run → GoesOnAs means run old terms before new text → GoesOn means found old terms before new text
  goes_on_some found run old terms new before text is goes =
      subst (λ (r : Option SeatRun). GoesOn means r old terms before new text) (sym is) goes

  pub goes_on_none : (found : Option SeatRun) (old : W) (terms : SeatTerms) (new : Seat W) (before text : List ℕ) →
      found ≡ None → new ≡ record { world = old; run = None; terms = terms } → text ≡ before → GoesOn means found old terms before new text
  goes_on_none found old terms new before text is same told =
      subst (λ (r : Option SeatRun). GoesOn means r old terms before new text) (sym is) (same, told)

  pub is_over : (run after : SeatRun) (old world : W) (terms : SeatTerms) (new : Seat W) (before text : List ℕ) →
      Drives means old run world after → RunsThrough means.calls means.relates means.parks old world → Closes means world after terms before new text →
      GoesOnAs means run old terms before new text
  is_over run after old world terms new before text drives through closes = record { world = world; after = after; drives = drives; told = inr (through, closes) }

  pub is_waiting : (run after : SeatRun) (old world : W) (terms : SeatTerms) (new : Seat W) (before text : List ℕ) →
      Drives means old run world after → means.parks world ≡ true → Waits means world after terms before new text →
      GoesOnAs means run old terms before new text
  is_waiting run after old world terms new before text drives parks waits = record { world = world; after = after; drives = drives; told = inl (parks, waits) }

  pub waits : (world : W) (run : SeatRun) (terms : SeatTerms) (told : Told) (new : Seat W) (before text : List ℕ) →
      told ≡ told_of told.wake (means.outside world) → IsNext (means.outside world).moment (means.outside world).sleeps told.wake → text ≡ before ++ told_text terms.number told →
      new ≡ record { world = means.with_outside (after_told (means.outside world)) world; run = Some run; terms = terms } → Waits means world run terms before new text
  waits world run terms told new before text is next text_is after = record {
    wake = told.wake;
    next = next;
    text_is = text_is ∙ ap (λ (t : Told). before ++ told_text terms.number t) is;
    after = after;
  }

  pub rested : (number : ℕ) (old ended new : W) (told : Told) (before text : List ℕ) →
      means.rests old ended → told ≡ told_of told.wake (means.outside ended) → new ≡ means.with_outside (after_told (means.outside ended)) ended → text ≡ before ++ poison_text number told.poisoned →
      Rests means number old before new text
  rested number old ended new told before text ends is after text_is = record {
    ended = ended;
    ends = ends;
    after = after;
    text_is = text_is ∙ ap (λ (t : Told). before ++ poison_text number t.poisoned) is;
  }

  pub closes : (world : W) (run : SeatRun) (terms : SeatTerms) (ending : Ending) (new : Seat W) (before told logged text : List ℕ) →
      Rests means terms.number world before new.world told → EndsBy run ending → IsOver run.driven → logged ≡ told ++ log_text run.is_logged (means.calls new.world) →
      text ≡ logged ++ line (done_data terms.number (calls_of run) (ending_data ending)) → new ≡ record { world = new.world; run = None; terms = terms } →
      Closes means world run terms before new text
  closes world run terms ending new before told logged text rest ends over logged_is text_is after = record {
    told = told;
    rest = rest;
    ending = ending;
    ends = ends;
    over = over;
    text_is = text_is ∙ ap (λ (t : List ℕ). t ++ line (done_data terms.number (calls_of run) (ending_data ending))) logged_is;
    after = after;
  }

  pub drives : (old new : W) (run : SeatRun) (driven : DrivenRun) →
      ((p : Payload) (stop : StopPoint) (before : List Entry) → Goes p stop run.driven before (means.calls old) → Goes p stop driven before (means.calls new)) → driven.fuel ≡ run.driven.fuel →
      HandedOn means.relates old new (means.calls old) (means.calls new) → Stretches means.calls means.relates means.parks old new →
      Drives means old run new (record run { driven = driven })
  drives old new run driven goes fuel related stretches = record { related = related; stretches = stretches; goes = goes; fuel = fuel; others = refl }

  pub begins : (i : HostInvocation) (old empty fed_one : W) (terms : SeatTerms) (run : SeatRun) (new : Seat W) (before text : List ℕ) →
      empty ≡ means.emptied old → fed_one ≡ feeding means i.moment [] empty → Starts i terms run →
      GoesOnAs means run fed_one terms before new text → Begins means i old terms before new text
  begins i old empty fed_one terms run new before text is_empty is_fed start goes = record {
    run = run;
    starts = start;
    goes_on = subst (λ (w : W). GoesOnAs means run w terms before new text)
        (is_fed ∙ ap (λ (w : W). feeding means i.moment [] w) is_empty) goes;
  }

  pub goes_on_fed : (found : Option SeatRun) (old fed_one : W) (moment : ℕ) (events : List HostEvent) (terms : SeatTerms) (new : Seat W) (before text : List ℕ) →
      fed_one ≡ feeding means moment events old → GoesOn means found fed_one terms before new text →
      GoesOn means found (feeding means moment events old) terms before new text
  goes_on_fed found old fed_one moment events terms new before text is goes =
      subst (λ (w : W). GoesOn means found w terms before new text) is goes

  pub gives_up_some : (found : Option SeatRun) (run : SeatRun) (old fed_one : W) (terms : SeatTerms) (new : Seat W) (before told text : List ℕ) →
      found ≡ Some run → fed_one ≡ old → Rests means terms.number fed_one before new.world told → text ≡ told ++ line (done_data terms.number (calls_of run) given_up_data) →
      new ≡ record { world = new.world; run = None; terms = terms } → GivesAnyUp means found old terms before new text
  gives_up_some found run old fed_one terms new before told text is is_fed rest text_is after =
      subst (λ (r : Option SeatRun). GivesAnyUp means r old terms before new text) (sym is) (record {
        told = told;
        rest = subst (λ (w : W). Rests means terms.number w before new.world told) is_fed rest;
        text_is = text_is;
        after = after;
      })

  pub gives_up_none : (found : Option SeatRun) (old : W) (terms : SeatTerms) (new : Seat W) (before text : List ℕ) →
      found ≡ None → new ≡ record { world = old; run = None; terms = terms } → text ≡ before → GivesAnyUp means found old terms before new text
  gives_up_none found old terms new before text is same told =
      subst (λ (r : Option SeatRun). GivesAnyUp means r old terms before new text) (sym is) (same, told)

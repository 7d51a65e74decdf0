-- A poll, and how it ends its waiter's turn.
use Rattle.std.proofs.Common.{◌≡◌, ℕ, ◌+◌, ◌-◌, ◌^◌, List, [], ◌∷◌, ◌++◌, None, Some, Ok, Bool, true, false, arith, ap, sym, subst, refl, ◌∙◌, min, append_assoc, if◌then◌else◌, cond}
use Rattle.std.specs.Prelude.{◌==◌, slice_get, MatchOption}
use Rattle.smithy_types.specs.Chain.{Chained}
use Rattle.smithy_types.specs.declared.acceptor.AcceptorState.{AcceptorState}
use Rattle.smithy_types.specs.declared.timers.TimersCall.TheVariants.{Now, Start}
use Rattle.waiters.specs.Delay.{IsDelay}
use Rattle.waiters.specs.Walk.{Verdict}
use Rattle.retry_quota.specs.Book.{Book}
use Rattle.waiter_fleet.specs.declared.event.FleetEnd.{FleetEnd}
use Rattle.waiter_fleet.specs.declared.event.FleetEnd.TheVariants as end
use Rattle.waiter_fleet.specs.declared.event.FleetEvent.{FleetEvent}
use Rattle.waiter_fleet.specs.declared.event.FleetEvent.TheVariants.{Poll, Sleep, End}
use Rattle.waiter_fleet.specs.declared.event.Seen.{Seen}
use Rattle.waiter_fleet.specs.declared.found.Found.{Found}
use Rattle.waiter_fleet.specs.declared.plan.Plan.{Plan}
use Rattle.waiter_fleet.specs.declared.seat.Seat.{Seat}
use Rattle.waiter_fleet.specs.Acts.{Act, events_of}
use Rattle.waiter_fleet.specs.Calls.{FleetCall, asks, drew, polled, timed, unanswered}
use Rattle.waiter_fleet.specs.Events.{charges, ended, polls, zero_used}
use Rattle.waiter_fleet.specs.Fleet.{Behind, EndsBy, GoesOn, MayEnd, MayPoll, verdict_of}
use Rattle.waiter_fleet.specs.Seats.{Polled, Rests, Seated, TurnsOver, plan_of}
use Rattle.waiter_fleet.specs.Steps.{Halts, Origin, Spends, Stands, StaysOn}
use Rattle.waiter_fleet.proofs.Others.{eq_self, others-more, others-none}
use Rattle.waiter_fleet.proofs.Standing.{halts-beyond, no_ask, spends-append, spends-none, spends-one, stands-act}

-- a poll that was answered and the clock behind it
pub spends-poll : {T : Type 0} (does : T → FleetCall → T → Type 0) {old mid : T} {full left : ℕ} (new : T) (waiter times number moment : ℕ) (seen : Seen) (state : AcceptorState) →
    Spends does old full (unanswered waiter times ++ polled waiter (Ok (Some (seen, state))) ∷ []) mid left → does mid (timed (Now moment)) new →
    Spends does old full (unanswered waiter times ++ (polled waiter (Ok (Some (seen, state))) ∷ timed (Now moment) ∷ [])) new left
spends-poll does {old} {mid} {full} {left} new waiter times number moment seen state asked clock =
    let P : List FleetCall → Type 0 = λ calls. Spends does old full calls new left in
    subst P (append_assoc (unanswered waiter times) (polled waiter (Ok (Some (seen, state))) ∷ []) (timed (Now moment) ∷ []))
    (spends-append does asked (spends-one does mid new left left (timed (Now moment)) clock (omega arith)))

spent-resting : (nanos word sleep left : ℕ) →
    left + asks (drew word ∷ (if nanos == 0 then [] else timed (Start nanos (Ok (Some sleep))) ∷ [])) ≡ left
spent-resting nanos word sleep left =
    elim (nanos == 0) as (λ none. left + asks (drew word ∷ cond none [] (timed (Start nanos (Ok (Some sleep))) ∷ [])) ≡ left) [
      | true ↦ omega arith
      | false ↦ omega arith
    ]

module _ (plans : List Plan) (book : Book) (start : ℕ) (before : List FleetEvent) (waiter : ℕ) (plan : Plan) (planned : slice_get plans waiter ≡ Some plan)
    (number moment : ℕ) (seen : Seen) (state : AcceptorState) where
  -- what follows of a poll that stands last
  behind : (follows : Plan → Bool → ℕ → ℕ → Verdict → Type 0) → follows plan (zero_used waiter before) number (moment - start) (verdict_of seen state) →
      Behind plans book start (Poll waiter number moment seen state ∷ before) waiter follows
  behind follows so = record {
    plan = plan;
    planned = planned;
    number = number;
    moment = moment;
    verdict = verdict_of seen state;
    poll = record { earlier = before; seen = seen; state = state; is = refl; means = refl };
    so = so;
  }

  may_end : (ending : FleetEnd) → EndsBy plan (zero_used waiter before) number (moment - start) (verdict_of seen state) ending →
      MayEnd plans book start (Poll waiter number moment seen state ∷ before) waiter ending
  may_end end.Ok so = behind (λ one used count elapsed verdict. EndsBy one used count elapsed verdict end.Ok) so
  may_end end.OperationFailed so = behind (λ one used count elapsed verdict. EndsBy one used count elapsed verdict end.OperationFailed) so
  may_end end.FailureState so = behind (λ one used count elapsed verdict. EndsBy one used count elapsed verdict end.FailureState) so
  may_end (end.ExceededMaxWait max_wait passed poll_count) so =
      behind (λ one used count elapsed verdict. EndsBy one used count elapsed verdict (end.ExceededMaxWait max_wait passed poll_count)) so
  may_end (end.NoQuota cost) so = absurd so
  may_end end.Unfinished so = absurd so

module _ {T : Type 0} (does : T → FleetCall → T → Type 0) (o : Origin T) (start waiter : ℕ) (acts : List Act) (was : Seat) (found : Found)
    {events : List FleetEvent} {book : Book} {world : T} {left : ℕ}
    (one : Polled does o start waiter acts was found events book world left)
    (seated : Seated o.plans acts waiter was) (paid : charges waiter (events_of acts) ≡ polls waiter (events_of acts)) where
  poll : Act
  poll = record { event = Poll waiter was.number found.moment one.seen one.state; times = one.times; sleep = 0 }

  -- the poll ends its waiter
  pub closes-ended : (ending : FleetEnd) (is : Seat) (logged : List FleetEvent) →
      EndsBy (plan_of was.backoff) was.zero_used was.number found.elapsed (verdict_of one.seen one.state) ending →
      is.backoff ≡ was.backoff → is.number ≡ min (was.number + 1) (2 ^ 32 - 1) → is.zero_used ≡ was.zero_used → is.sleep ≡ was.sleep → is.ended ≡ true →
      logged ≡ events ++ End waiter ending ∷ [] →
      TurnsOver does o start waiter acts true is logged book world left
  unfolding poll
  closes-ended ending is logged ends backoff number zero sleep over same =
      let test = eq_self waiter in
      let closing : Act = record { event = End waiter ending; times = 0; sleep = 0 } in
      let so : EndsBy (plan_of was.backoff) (zero_used waiter (events_of acts)) was.number (found.moment - start) (verdict_of one.seen one.state) ending =
      let P : Bool → Type 0 = λ used. EndsBy (plan_of was.backoff) used was.number (found.moment - start) (verdict_of one.seen one.state) ending in
      let Q : ℕ → Type 0 = λ elapsed. EndsBy (plan_of was.backoff) was.zero_used was.number elapsed (verdict_of one.seen one.state) ending in
      subst P seated.zero (subst Q one.elapsed ends) in
      let count = seated.numbered in
      record {
        acts = closing ∷ poll ∷ acts;
        stands = stands-act does o start (poll ∷ acts) (End waiter ending) 0 0 one.stands
            (may_end o.plans o.book start (events_of acts) waiter (plan_of was.backoff) seated.planned was.number found.moment one.seen one.state ending so)
            (spends-none does world left) refl same no_ask;
        seated = record {
          planned = seated.planned ∙ ap (λ b. Some (plan_of b)) (sym backoff);
          numbered = rw test (omega arith);
          zero = zero ∙ seated.zero;
          sleeps = sleep ∙ seated.sleeps;
          ends = rw test over;
        };
        is_over = rw test refl;
        paid = rw test (omega (arith, paid));
        settled = refl;
        others = others-more start acts (poll ∷ acts) closing (others-more start acts acts poll (others-none start waiter acts));
      }

  -- or its waiter sleeps
  pub closes-resting : (is : Seat) (logged : List FleetEvent) (word nanos sleep at : ℕ) (new : T) →
      StaysOn (plan_of was.backoff) was.zero_used found.elapsed (verdict_of one.seen one.state) →
      IsDelay was.backoff.min_delay was.backoff.max_delay was.backoff.max_wait was.number found.elapsed word nanos →
      Chained does world (drew word ∷ (if nanos == 0 then [] else timed (Start nanos (Ok (Some sleep))) ∷ [])) new →
      is.backoff ≡ was.backoff → is.number ≡ min (was.number + 1) (2 ^ 32 - 1) → is.zero_used ≡ (nanos == 0) →
      is.sleep ≡ (if nanos == 0 then None else Some sleep) → is.ended ≡ was.ended →
      ended waiter (events_of acts) ≡ false →
      logged ≡ events ++ Sleep waiter nanos found.elapsed word ∷ [] → at ≡ min (found.moment + nanos) (2 ^ 64 - 1) →
      Rests does o start waiter acts at is logged book new left
  unfolding poll
  closes-resting is logged word nanos sleep at new stays delays chain backoff number zero sleeps over waits same comes =
      let test = eq_self waiter in
      let unused : zero_used waiter (events_of acts) ≡ false = sym seated.zero ∙ stays.no_zero in
      let resting : Act = record { event = Sleep waiter nanos found.elapsed word; times = 0; sleep = sleep } in
      let goes : GoesOn (plan_of was.backoff) (zero_used waiter (events_of acts)) was.number (found.moment - start) (verdict_of one.seen one.state) word nanos = record {
        goes = stays.goes;
        no_zero = unused;
        in_time = let within = stays.in_time in omega (arith, one.elapsed);
        delays = let P : ℕ → Type 0 = λ elapsed. IsDelay was.backoff.min_delay was.backoff.max_delay was.backoff.max_wait was.number elapsed word nanos in
            subst P one.elapsed delays;
      } in
      let count = seated.numbered in
      record {
        turned = record {
          acts = resting ∷ poll ∷ acts;
          stands = stands-act does o start (poll ∷ acts) (Sleep waiter nanos found.elapsed word) 0 sleep one.stands
              (behind o.plans o.book start (events_of acts) waiter (plan_of was.backoff) seated.planned was.number found.moment one.seen one.state
              (λ plan used count passed verdict. (found.elapsed ≡ passed) × GoesOn plan used count passed verdict word nanos) (one.elapsed, goes))
              (record { made = chain; spent = spent-resting nanos word sleep left }) refl same no_ask;
          seated = record {
            planned = seated.planned ∙ ap (λ b. Some (plan_of b)) (sym backoff);
            numbered = rw test (omega arith);
            zero = rw (test, unused) zero;
            sleeps = rw test sleeps;
            ends = over ∙ seated.ends;
          };
          is_over = waits;
          paid = rw test (omega (arith, paid));
          settled = refl;
          others = others-more start acts (poll ∷ acts) resting (others-more start acts acts poll (others-none start waiter acts));
        };
        is_due = rw test comes;
      }

-- an allocation was refused behind a delay
pub halts-paused : {T : Type 0} (does : T → FleetCall → T → Type 0) (o : Origin T) (start : ℕ) {acts : List Act} {before : List FleetEvent} {book : Book} {mid : T} {between : ℕ}
    (word nanos sleep : ℕ) (new : T) → Stands does o start acts before book mid between →
    Chained does mid (drew word ∷ (if nanos == 0 then [] else timed (Start nanos (Ok (Some sleep))) ∷ [])) new → Halts does o start book new
halts-paused does o start word nanos sleep new stands chain =
    halts-beyond does o start (drew word ∷ (if nanos == 0 then [] else timed (Start nanos (Ok (Some sleep))) ∷ [])) new stands chain

-- a poll was answered, and what it means is told
pub polled-found : {T : Type 0} (does : T → FleetCall → T → Type 0) (o : Origin T) (start waiter : ℕ) (acts : List Act) (seat : Seat) (found : Found)
    {before : List FleetEvent} {book : Book} {old mid : T} {full left : ℕ} (times : ℕ) (seen : Seen) (state : AcceptorState)
    (events : List FleetEvent) (new : T) →
    Stands does o start acts before book old full → MayPoll o.plans o.book start (events_of acts) waiter seat.number →
    Spends does old full (unanswered waiter times ++ polled waiter (Ok (Some (seen, state))) ∷ []) mid left → does mid (timed (Now found.moment)) new →
    events ≡ before ++ Poll waiter seat.number found.moment seen state ∷ [] → found.elapsed ≡ found.moment - start →
    MatchOption found.end (StaysOn (plan_of seat.backoff) seat.zero_used found.elapsed (verdict_of seen state))
    (EndsBy (plan_of seat.backoff) seat.zero_used seat.number found.elapsed (verdict_of seen state)) →
    Polled does o start waiter acts seat found events book new left
polled-found does o start waiter acts seat found times seen state events new stands may asked clock logged elapsed ending = record {
  times = times;
  seen = seen;
  state = state;
  stands = stands-act does o start acts (Poll waiter seat.number found.moment seen state) times 0 stands may
      (spends-poll does new waiter times seat.number found.moment seen state asked clock) refl logged no_ask;
  elapsed = elapsed;
  ending = ending;
}

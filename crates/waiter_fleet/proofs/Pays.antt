-- Waiting for a waiter's next poll and paying for it.
use Rattle.std.proofs.Common.{◌≡◌, ◌≢◌, ℕ, ◌-◌, ◌/◌, List, [], ◌∷◌, ◌++◌, Option, None, Some, Bool, true, false, arith, ap, sym, subst, refl, ◌∙◌, length}
use Rattle.smithy_types.specs.declared.kinds.ErrorKind.TheVariants.{ServerError}
use Rattle.smithy_types.specs.declared.timers.TimersCall.TheVariants.{Now}
use Rattle.waiters.specs.Delay.{second}
use Rattle.retry_quota.specs.Book.{Book, cost_of}
use Rattle.retry_quota.specs.History.{Acquire, Forget, after, is_granted}
use Rattle.retry_quota.proofs.BookLemmas.{cost-after}
use Rattle.waiter_fleet.specs.declared.event.FleetEnd.TheVariants as end
use Rattle.waiter_fleet.specs.declared.event.FleetEvent.{FleetEvent}
use Rattle.waiter_fleet.specs.declared.event.FleetEvent.TheVariants.{Poll, Sleep, Charged, Refused, End}
use Rattle.waiter_fleet.specs.declared.paid.Paid.{Paid}
use Rattle.waiter_fleet.specs.declared.paid.Paid.TheVariants as paid
use Rattle.waiter_fleet.specs.declared.seat.Seat.{Seat}
use Rattle.waiter_fleet.specs.Acts.{Act, events_of, open_sleep}
use Rattle.waiter_fleet.specs.Calls.{FleetCall, awaited, timed}
use Rattle.waiter_fleet.specs.Events.{book_after, book_with, charges, polls}
use Rattle.waiter_fleet.specs.Fleet.{IsTurnOf, MayAsk, is_settled}
use Rattle.waiter_fleet.specs.Paying.{AsksFor, IsCharged, IsRefused, PayEnds, ReadyEnds}
use Rattle.waiter_fleet.specs.Seats.{IsReady, Seated}
use Rattle.waiter_fleet.specs.Steps.{Halts, Origin, Rest, RunsOut, Spends, Stands, asked, asleep, awoken, wake_calls}
use Rattle.waiter_fleet.proofs.Others.{eq_self, others-more, others-none}
use Rattle.waiter_fleet.proofs.Standing.{kept-act, kept-halts, no_ask, runs_out, spends-append, spends-none, spends-one, stands-act}

-- no event changes the cost
cost-with : (cost : ℕ) (event : FleetEvent) (book : Book) → cost_of ServerError (book_with cost event book) ≡ cost_of ServerError book
cost-with cost (Poll waiter number moment seen state) book = refl
cost-with cost (Sleep waiter nanos elapsed word) book = refl
cost-with cost (Charged waiter moment) book =
    let step = Acquire ServerError (moment / second) in
    cost-after ServerError (Forget cost) (after step book) ∙ cost-after ServerError step book
cost-with cost (Refused waiter refused moment) book = cost-after ServerError (Acquire ServerError (moment / second)) book
cost-with cost (End waiter ending) book = refl

pub cost-book_after : (book : Book) (events : List FleetEvent) → cost_of ServerError (book_after book events) ≡ cost_of ServerError book
cost-book_after book [] = refl
cost-book_after book (event ∷ before) =
    cost-with (cost_of ServerError book) event (book_after book before) ∙ cost-book_after book before

-- the turn stays behind a charge
pub turn-charged : (count start : ℕ) (before : List FleetEvent) (waiter one moment : ℕ) → IsTurnOf count start before waiter →
    IsTurnOf count start (Charged one moment ∷ before) waiter
turn-charged count start before waiter one moment turn = record {
  within = turn.within;
  waits = turn.waits;
  first = turn.first;
}

module _ {T : Type 0} (does : T → FleetCall → T → Type 0) (o : Origin T) (start : ℕ) (acts : List Act) (waiter : ℕ) where
  rest-asleep : (sleep : Option ℕ) (times : ℕ) → AsksFor o start acts waiter sleep → Rest does o start acts (wake_calls sleep times false)
  rest-asleep None times asks =
      let P : Option ℕ → Type 0 = λ one. Rest does o start acts (awaited one times) in
      subst P (sym asks.is_open) (awoken waiter times asks.turn asks.unpaid)
  rest-asleep (Some sleep) times asks = asleep waiter sleep times asks.turn asks.unpaid (sym asks.is_open)

  rest-awoken : (sleep : Option ℕ) (times : ℕ) → AsksFor o start acts waiter sleep → Rest does o start acts (awaited sleep times)
  rest-awoken sleep times asks =
      let P : Option ℕ → Type 0 = λ one. Rest does o start acts (awaited one times) in
      subst P (sym asks.is_open) (awoken waiter times asks.turn asks.unpaid)

  module _ {events : List FleetEvent} {book : Book} {old mid : T} {full left : ℕ} (sleep : Option ℕ) (times : ℕ)
      (stands : Stands does o start acts events book old full) (asks : AsksFor o start acts waiter sleep) where
    -- the fuel was spent before the sleep was over,
    pub pays-asleep : Spends does old full (wake_calls sleep times false) mid left → left ≡ 0 → RunsOut does o start acts events book mid left
    pays-asleep woke spent = runs_out does o start stands woke (rest-asleep sleep times asks) asks.settled spent

    -- or just then
    pub pays-awoken : Spends does old full (awaited sleep times) mid left → left ≡ 0 → RunsOut does o start acts events book mid left
    pays-awoken woke spent = runs_out does o start stands woke (rest-awoken sleep times asks) asks.settled spent

    module _ {new : T} (moment : ℕ) (woke : Spends does old full (awaited sleep times) mid left) (clock : does mid (timed (Now moment)) new)
        (spare : left ≢ 0) where
      -- the calls of an ask
      asks-calls : Spends does old full (awaited (open_sleep waiter acts) times ++ timed (Now moment) ∷ []) new left
      asks-calls =
          let P : Option ℕ → Type 0 = λ one. Spends does old full (awaited one times ++ timed (Now moment) ∷ []) new left in
          subst P asks.is_open (spends-append does woke (spends-one does mid new left left (timed (Now moment)) clock (omega arith)))

      may_ask : (granted : Bool) → granted ≡ is_granted ServerError (moment / second) book → MayAsk o.plans o.book start (events_of acts) waiter moment granted
      may_ask granted is = record {
        turn = asks.turn;
        settled = asks.settled;
        unpaid = asks.unpaid;
        answer = let Q : Book → Type 0 = λ one. is_granted ServerError (moment / second) one ≡ granted in subst Q stands.kept.books (sym is);
      }

      same_cost : cost_of ServerError book ≡ cost_of ServerError o.book
      same_cost = let Q : Book → Type 0 = λ one. cost_of ServerError one ≡ cost_of ServerError o.book in
          subst Q (sym stands.kept.books) (cost-book_after o.book (events_of acts))

      pub halts-charged : (later : Book) → true ≡ is_granted ServerError (moment / second) book →
          later ≡ asked (moment / second) true book → Halts does o start later new
      halts-charged later granted is =
          kept-halts does o start (kept-act does o start acts (Charged waiter moment) times 0 stands.kept (may_ask true granted) asks-calls
          (is ∙ ap (λ cost. after (Forget cost) (after (Acquire ServerError (moment / second)) book)) same_cost) (λ ask. spare))

      pub pays-charged : (later : Book) (logged : List FleetEvent) → true ≡ is_granted ServerError (moment / second) book →
          later ≡ asked (moment / second) true book → logged ≡ events ++ Charged waiter moment ∷ [] →
          IsCharged does o start acts waiter logged later new left
      pays-charged later logged granted is same = record {
        times = times;
        moment = moment;
        stands = stands-act does o start acts (Charged waiter moment) times 0 stands (may_ask true granted) asks-calls
            (is ∙ ap (λ cost. after (Forget cost) (after (Acquire ServerError (moment / second)) book)) same_cost) same (λ ask. spare);
      }

      refused_cost : (cost : ℕ) (later : Book) → later ≡ asked (moment / second) false book → cost ≡ cost_of ServerError later →
          cost ≡ cost_of ServerError o.book
      refused_cost cost later is is_cost =
          (is_cost ∙ ap (λ one. cost_of ServerError one) is) ∙ (cost-after ServerError (Acquire ServerError (moment / second)) book ∙ same_cost)

      pub halts-refused : (cost : ℕ) (later : Book) → false ≡ is_granted ServerError (moment / second) book →
          later ≡ asked (moment / second) false book → cost ≡ cost_of ServerError later → Halts does o start later new
      halts-refused cost later refused is is_cost =
          kept-halts does o start (kept-act does o start acts (Refused waiter cost moment) times 0 stands.kept
          (may_ask false refused, refused_cost cost later is is_cost) asks-calls is (λ ask. spare))

      pub pays-refused : (cost : ℕ) (later : Book) (logged : List FleetEvent) → false ≡ is_granted ServerError (moment / second) book →
          later ≡ asked (moment / second) false book → cost ≡ cost_of ServerError later →
          logged ≡ events ++ Refused waiter cost moment ∷ [] ++ End waiter (end.NoQuota cost) ∷ [] →
          IsRefused does o start acts waiter logged later new left
      pays-refused cost later logged refused is is_cost same =
          let act : Act = record { event = Refused waiter cost moment; times = times; sleep = 0 } in
          record {
            times = times;
            moment = moment;
            cost = cost;
            stands = stands-act does o start (act ∷ acts) (End waiter (end.NoQuota cost)) 0 0
                (stands-act does o start acts (Refused waiter cost moment) times 0 stands (may_ask false refused, refused_cost cost later is is_cost) asks-calls is refl
                (λ ask. spare))
                (events_of acts, moment, refl) (spends-none does new left) refl same no_ask;
          }

  -- the first poll is free
  pub ready-first : {events : List FleetEvent} {book : Book} {world : T} {left : ℕ} (seat : Seat) →
      Stands does o start acts events book world left → Seated o.plans acts waiter seat →
      IsTurnOf (length o.plans) start (events_of acts) waiter → is_settled (events_of acts) ≡ true →
      charges waiter (events_of acts) ≡ polls waiter (events_of acts) - 1 → seat.number ≡ 1 →
      IsReady does o start waiter acts seat events book world left
  ready-first {events} {book} {world} {left} seat stands seated turn settled paid first = record {
    acts = acts;
    stands = stands;
    may = record {
      turn = turn;
      settled = settled;
      paid = let numbered = seated.numbered in omega arith;
      numbered = seated.numbered;
    };
    seated = seated;
    others = others-none start waiter acts;
  }

  -- each later one asks for its cost
  pub asks-later : (seat : Seat) → Seated o.plans acts waiter seat →
      IsTurnOf (length o.plans) start (events_of acts) waiter → is_settled (events_of acts) ≡ true →
      charges waiter (events_of acts) ≡ polls waiter (events_of acts) - 1 → seat.number ≢ 1 →
      AsksFor o start acts waiter seat.sleep
  asks-later seat seated turn settled paid later = record {
    turn = turn;
    settled = settled;
    unpaid = let numbered = seated.numbered in omega arith;
    is_open = seated.sleeps;
  }

  pub ready-charged : {events : List FleetEvent} {book : Book} {world : T} {left : ℕ} (seat : Seat) → Seated o.plans acts waiter seat →
      AsksFor o start acts waiter seat.sleep → IsCharged does o start acts waiter events book world left →
      IsReady does o start waiter acts seat events book world left
  ready-charged {events} {book} {world} {left} seat seated asks charged =
      let act : Act = record { event = Charged waiter charged.moment; times = charged.times; sleep = 0 } in
      let test = eq_self waiter in
      record {
        acts = act ∷ acts;
        stands = charged.stands;
        may = record {
          turn = turn-charged (length o.plans) start (events_of acts) waiter waiter charged.moment asks.turn;
          settled = refl;
          paid = rw test asks.unpaid;
          numbered = seated.numbered;
        };
        seated = seated;
        others = others-more start acts acts act (others-none start waiter acts);
      }

  pub ready-ends : (events : List FleetEvent) (book : Book) (world : T) (left : ℕ) (seat : Seat) (one : Paid) → Seated o.plans acts waiter seat →
      AsksFor o start acts waiter seat.sleep → PayEnds does o start acts waiter events book world left one →
      ReadyEnds does o start acts waiter seat events book world left one
  ready-ends events book world left seat paid.Charged seated asks ends = ready-charged seat seated asks ends
  ready-ends events book world left seat paid.Refused seated asks ends = ends
  ready-ends events book world left seat paid.Spent seated asks ends = ends

-- A turn, and the step of a fleet that it makes.
use Rattle.std.proofs.Common.{◌≡◌, ◌≢◌, ℕ, ◌-◌, ◌<◌, ◌⊎◌, inl, inr, List, ◌∷◌, Some, Bool, true, false, arith, ap, sym, subst, refl, ◌∙◌, length, slice_get, set, get_or-set_other, get_or-set_same}
use Rattle.std.proofs.lemmas.List.{length-set}
use Rattle.std.proofs.lemmas.Bool.{cases_eq}
use Rattle.std.proofs.lemmas.Option.{get_or_from_slice_get, slice_get_read, slice_get_within}
use Rattle.retry_quota.specs.Book.{Book}
use Rattle.waiter_fleet.specs.declared.event.FleetEnd.TheVariants as end
use Rattle.waiter_fleet.specs.declared.event.FleetEvent.{FleetEvent}
use Rattle.waiter_fleet.specs.declared.event.FleetEvent.TheVariants.{Refused, End}
use Rattle.waiter_fleet.specs.declared.plan.Plan.{Plan}
use Rattle.waiter_fleet.specs.declared.schedule.Due.{Due}
use Rattle.waiter_fleet.specs.declared.seat.Seat.{Seat}
use Rattle.waiter_fleet.specs.declared.turned.Turned.{Turned}
use Rattle.waiter_fleet.specs.declared.turned.Turned.TheVariants as turned
use Rattle.waiter_fleet.specs.Turns.{TurnEnds}
use Rattle.waiter_fleet.specs.Acts.{Act, events_of}
use Rattle.waiter_fleet.specs.Calls.{FleetCall}
use Rattle.waiter_fleet.specs.Events.{charges, due, ended, polls}
use Rattle.waiter_fleet.specs.Fleet.{number_behind}
use Rattle.waiter_fleet.specs.Fleets.{AreSeated, Between, GoesFurther, IsScheduled, Over, Popped}
use Rattle.waiter_fleet.specs.Paying.{IsRefused}
use Rattle.waiter_fleet.specs.Schedules.{Adds, Has}
use Rattle.waiter_fleet.specs.Seats.{Breaks, IsReady, Rests, Seated, TurnsOver, plan_of}
use Rattle.waiter_fleet.specs.Steps.{KeepsOthers, Origin, RunsOut}
use Rattle.waiter_fleet.proofs.Others.{eq_self, others-join, others-more, others-none}

module _ {T : Type 0} (does : T → FleetCall → T → Type 0) (o : Origin T) (start waiter : ℕ) (acts : List Act)
    {events : List FleetEvent} {book : Book} {world : T} {left : ℕ} where
  -- the bucket refused the next poll
  pub turns-refused : (was is : Seat) → IsRefused does o start acts waiter events book world left → Seated o.plans acts waiter was →
      charges waiter (events_of acts) ≡ polls waiter (events_of acts) - 1 →
      is.backoff ≡ was.backoff → is.number ≡ was.number → is.zero_used ≡ was.zero_used → is.sleep ≡ was.sleep → is.ended ≡ true →
      TurnsOver does o start waiter acts true is events book world left
  turns-refused was is refused seated paid backoff number zero sleep over =
      let test = eq_self waiter in
      let asking : Act = record { event = Refused waiter refused.cost refused.moment; times = refused.times; sleep = 0 } in
      let closing : Act = record { event = End waiter (end.NoQuota refused.cost); times = 0; sleep = 0 } in
      record {
        acts = closing ∷ asking ∷ acts;
        stands = refused.stands;
        seated = record {
          planned = seated.planned ∙ ap (λ b. Some (plan_of b)) (sym backoff);
          numbered = number ∙ seated.numbered;
          zero = zero ∙ seated.zero;
          sleeps = sleep ∙ seated.sleeps;
          ends = rw test over;
        };
        is_over = rw test refl;
        paid = paid;
        settled = refl;
        others = others-more start acts (asking ∷ acts) closing (others-more start acts acts asking (others-none start waiter acts));
      }

  -- the fuel was spent before the waiter was polled,
  pub breaks-waiting : RunsOut does o start acts events book world left → Breaks does o start waiter acts events book world left
  breaks-waiting out = record { acts = acts; runs_out = out; waits = refl; others = others-none start waiter acts }

  -- or answered
  pub breaks-polling : {some : List FleetEvent} {mid : T} {more : ℕ} (seat : Seat) → Seated o.plans acts waiter seat →
      (ready : IsReady does o start waiter acts seat some book mid more) →
      RunsOut does o start ready.acts events book world left → Breaks does o start waiter acts events book world left
  breaks-polling {some} {mid} {more} seat seated ready out = record {
    acts = ready.acts;
    runs_out = out;
    waits = sym ready.seated.ends ∙ seated.ends;
    others = ready.others;
  }

  -- what holds behind the payment holds behind the turn
  pub turns-joined : (mid : List Act) (over : Bool) (seat : Seat) → KeepsOthers start waiter acts mid →
      TurnsOver does o start waiter mid over seat events book world left → TurnsOver does o start waiter acts over seat events book world left
  turns-joined mid over seat keeps turned = record {
    acts = turned.acts;
    stands = turned.stands;
    seated = turned.seated;
    is_over = turned.is_over;
    paid = turned.paid;
    settled = turned.settled;
    others = others-join start waiter acts mid turned.acts keeps turned.others;
  }

  pub rests-joined : (mid : List Act) (moment : ℕ) (seat : Seat) → KeepsOthers start waiter acts mid →
      Rests does o start waiter mid moment seat events book world left → Rests does o start waiter acts moment seat events book world left
  unfolding turns-joined
  rests-joined mid moment seat keeps rests = record {
    turned = turns-joined mid false seat keeps rests.turned;
    is_due = rests.is_due;
  }

-- two numbers are the same or aren't
same_or_apart : (m n : ℕ) → (m ≡ n) ⊎ (m ≢ n)
same_or_apart m n = cases_eq m n

module _ {X : Type 0} (xs : List X) (i : ℕ) (v : X) where
  got-other : (k : ℕ) (x : X) → k ≢ i → slice_get (set xs i v) k ≡ Some x → slice_get xs k ≡ Some x
  got-other k x apart got =
      let at = get_or_from_slice_get (set xs i v) k x x got in
      let same = get_or-set_other xs i k v x apart in
      let within = slice_get_within (set xs i v) k x got in
      slice_get_read xs (length (set xs i v)) k x (length-set xs i v) within (sym at ∙ same)

  got-same : (x : X) → i < length xs → slice_get (set xs i v) i ≡ Some x → x ≡ v
  got-same x within got = sym (get_or_from_slice_get (set xs i v) i x x got) ∙ get_or-set_same xs i v x within

  -- what holds of the new item, and of each other one, holds of each
  pub each-set : (P : ℕ → X → Type 0) → i < length xs → P i v → ((k : ℕ) (x : X) → k ≢ i → slice_get xs k ≡ Some x → P k x) →
      (k : ℕ) (x : X) → slice_get (set xs i v) k ≡ Some x → P k x
  each-set P within new others k x got =
      elim (same_or_apart k i) [
        | inl same ↦
            let Q : ℕ → Type 0 = λ j. slice_get (set xs i v) j ≡ Some x in
            let R : ℕ → Type 0 = λ j. P j x in
            subst R (sym same) (subst (P i) (sym (got-same x within (subst Q same got))) new)
        | inr apart ↦ others k x apart (got-other k x apart got)
      ]

module _ (plans : List Plan) (start waiter : ℕ) (old new : List Act) (keeps : KeepsOthers start waiter old new) where
  seated-other : (k : ℕ) (seat : Seat) → k ≢ waiter → Seated plans old k seat → Seated plans new k seat
  seated-other k seat apart seated = record {
    planned = seated.planned;
    numbered = seated.numbered ∙ ap number_behind (sym (keeps.same_polls k apart));
    zero = seated.zero ∙ sym (keeps.same_zero k apart);
    sleeps = seated.sleeps ∙ sym (keeps.same_open k apart);
    ends = seated.ends ∙ sym (keeps.same_end k apart);
  }

  are_seated : (seats : List Seat) (seat : Seat) → AreSeated plans old seats → waiter < length seats → Seated plans new waiter seat →
      AreSeated plans new (set seats waiter seat)
  are_seated seats seat seated within own = record {
    count = length-set seats waiter seat ∙ seated.count;
    each = each-set seats waiter seat (λ k one. Seated plans new k one) within own
        (λ k one apart got. seated-other k one apart (seated.each k one got));
  }

  paid-all : ((k : ℕ) → charges k (events_of old) ≡ polls k (events_of old) - 1) →
      charges waiter (events_of new) ≡ polls waiter (events_of new) - 1 →
      (k : ℕ) → charges k (events_of new) ≡ polls k (events_of new) - 1
  paid-all paid own k =
      elim (same_or_apart k waiter) [
        | inl same ↦ let P : ℕ → Type 0 = λ j. charges j (events_of new) ≡ polls j (events_of new) - 1 in subst P (sym same) own
        | inr apart ↦ keeps.same_charges k apart ∙ (paid k ∙ ap (λ n. n - 1) (sym (keeps.same_polls k apart)))
      ]

  due-other : (k : ℕ) → k ≢ waiter → due start k (events_of new) ≡ due start k (events_of old)
  due-other k apart =
      let moment = keeps.same_moment k apart in
      let sleep = keeps.same_sleep k apart in
      omega arith

  module _ (count moment : ℕ) (dues : List Due) (popped : Popped count start (events_of old) (record { moment = moment; waiter = waiter }) dues) where
    -- the waiter ended
    scheduled-ended : ended waiter (events_of new) ≡ true → IsScheduled count start (events_of new) dues
    scheduled-ended over = record {
      within = popped.within;
      waits = λ one has. keeps.same_end one.waiter (popped.apart one has) ∙ popped.waits one has;
      at = λ one has. popped.at one has ∙ sym (due-other one.waiter (popped.apart one has));
      each = λ k within waits. elim (same_or_apart k waiter) [
        | inl same ↦
            let P : ℕ → Type 0 = λ j. ended j (events_of new) ≡ false in
            let clash = subst P same waits in
            absurd (cc (sym over ∙ clash))
        | inr apart ↦
            let P : ℕ → Type 0 = λ at. Has dues (record { moment = at; waiter = k }) in
            subst P (sym (due-other k apart)) (popped.each k within apart (sym (keeps.same_end k apart) ∙ waits))
      ];
    }

    -- or is due again
    scheduled-again : (later : List Due) (again : ℕ) → Adds dues (record { moment = again; waiter = waiter }) later →
        ended waiter (events_of new) ≡ false → again ≡ due start waiter (events_of new) → IsScheduled count start (events_of new) later
    scheduled-again later again adds waits is = record {
      within = λ one has. elim (adds.none_else one has) [
        | inl same ↦ let P : Due → Type 0 = λ x. x.waiter < count in subst P (sym same) popped.turn.within
        | inr old_one ↦ popped.within one old_one
      ];
      waits = λ one has. elim (adds.none_else one has) [
        | inl same ↦ let P : Due → Type 0 = λ x. ended x.waiter (events_of new) ≡ false in subst P (sym same) waits
        | inr old_one ↦ keeps.same_end one.waiter (popped.apart one old_one) ∙ popped.waits one old_one
      ];
      at = λ one has. elim (adds.none_else one has) [
        | inl same ↦ let P : Due → Type 0 = λ x. x.moment ≡ due start x.waiter (events_of new) in subst P (sym same) is
        | inr old_one ↦ popped.at one old_one ∙ sym (due-other one.waiter (popped.apart one old_one))
      ];
      each = λ k within still. elim (same_or_apart k waiter) [
        | inl same ↦
            let P : ℕ → Type 0 = λ j. Has later (record { moment = due start j (events_of new); waiter = j }) in
            let Q : ℕ → Type 0 = λ at. Has later (record { moment = at; waiter = waiter }) in
            subst P (sym same) (subst Q is adds.there)
        | inr apart ↦
            let P : ℕ → Type 0 = λ at. Has dues (record { moment = at; waiter = k }) in
            adds.kept _ (subst P (sym (due-other k apart)) (popped.each k within apart (sym (keeps.same_end k apart) ∙ still)))
      ];
    }

module _ {T : Type 0} (does : T → FleetCall → T → Type 0) (o : Origin T) (start waiter moment : ℕ) (acts : List Act)
    {seats : List Seat} {before : List FleetEvent} {was_book : Book} {was_world : T} {full : ℕ}
    (between : Between does o start acts seats before was_book was_world full)
    {dues : List Due} (popped : Popped (length o.plans) start (events_of acts) (record { moment = moment; waiter = waiter }) dues)
    {events : List FleetEvent} {book : Book} {world : T} {left : ℕ} where
  between-turned : (over : Bool) (seat : Seat) → waiter < length seats →
      (turned : TurnsOver does o start waiter acts over seat events book world left) →
      Between does o start turned.acts (set seats waiter seat) events book world left
  between-turned over seat within turned = record {
    stands = turned.stands;
    seated = are_seated o.plans start waiter acts turned.acts turned.others seats seat between.seated within turned.seated;
    paid = paid-all o.plans start waiter acts turned.acts turned.others between.paid turned.paid;
    settled = turned.settled;
  }

  -- the waiter ended,
  pub goes-ended : (seat : Seat) → waiter < length seats → TurnsOver does o start waiter acts true seat events book world left →
      GoesFurther does o start (set seats waiter seat) dues events book world left
  goes-ended seat within turned = record {
    acts = turned.acts;
    between = between-turned true seat within turned;
    scheduled = scheduled-ended o.plans start waiter acts turned.acts turned.others (length o.plans) moment dues popped turned.is_over;
  }

  -- is due again,
  pub goes-again : (seat : Seat) (again : ℕ) (later : List Due) → waiter < length seats →
      Rests does o start waiter acts again seat events book world left → Adds dues (record { moment = again; waiter = waiter }) later →
      GoesFurther does o start (set seats waiter seat) later events book world left
  goes-again seat again later within rests adds = record {
    acts = rests.turned.acts;
    between = between-turned false seat within rests.turned;
    scheduled = scheduled-again o.plans start waiter acts rests.turned.acts rests.turned.others (length o.plans) moment dues popped later again adds
        rests.turned.is_over rests.is_due;
  }

  -- or the fuel was spent in its turn
  pub over-broken : (seat : Seat) → waiter < length seats → Seated o.plans acts waiter seat →
      Breaks does o start waiter acts events book world left → Over does o start (set seats waiter seat) events book world left
  over-broken seat within seated breaks = record {
    acts = breaks.acts;
    rest = breaks.runs_out.rest;
    is_rest = inr breaks.runs_out.is_rest;
    kept = breaks.runs_out.kept;
    logged = breaks.runs_out.logged;
    settled = breaks.runs_out.settled;
    count = length-set seats waiter seat ∙ between.seated.count;
    says = each-set seats waiter seat (λ k one. one.ended ≡ ended k (events_of breaks.acts)) within
        (seated.ends ∙ sym breaks.waits)
        (λ k one apart got. (between.seated.each k one got).ends ∙ sym (breaks.others.same_end k apart));
    why = inr breaks.runs_out.all_spent;
  }

-- what holds behind the payment holds behind the turn
pub turn_ends-joined : {T : Type 0} (does : T → FleetCall → T → Type 0) (o : Origin T) (start waiter : ℕ) (acts mid : List Act)
    (was is : Seat) (events : List FleetEvent) (book : Book) (world : T) (left : ℕ) (one : Turned) → KeepsOthers start waiter acts mid →
    ended waiter (events_of mid) ≡ ended waiter (events_of acts) →
    TurnEnds does o start waiter mid was is events book world left one → TurnEnds does o start waiter acts was is events book world left one
turn_ends-joined does o start waiter acts mid was is events book world left (turned.Sleeps moment) keeps same rests =
    rests-joined does o start waiter acts mid moment is keeps rests
turn_ends-joined does o start waiter acts mid was is events book world left turned.Ended keeps same over =
    turns-joined does o start waiter acts mid true is keeps over
turn_ends-joined does o start waiter acts mid was is events book world left turned.Spent keeps same (breaks, unchanged) = (
  record {
    acts = breaks.acts;
    runs_out = breaks.runs_out;
    waits = breaks.waits ∙ same;
    others = others-join start waiter acts mid breaks.acts keeps breaks.others;
  },
  unchanged,
)

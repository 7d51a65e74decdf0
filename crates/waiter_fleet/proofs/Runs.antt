-- A fleet's turns, from the first to the last.
use Rattle.std.proofs.Common.{◌≡◌, ℕ, ◌+◌, ◌-◌, ◌^◌, ◌<◌, ◌⊎◌, inl, inr, List, [], Bool, true, false, arith, ap, sym, subst, refl, ◌∙◌, length, min}
use Rattle.std.proofs.lemmas.Bool.{cases_eq}
use Rattle.std.proofs.lemmas.List.{append-nil}
use Rattle.smithy_types.specs.declared.timers.TimersCall.TheVariants.{Now}
use Rattle.retry_quota.specs.Book.{Book}
use Rattle.waiter_fleet.specs.declared.event.FleetEvent.{FleetEvent}
use Rattle.waiter_fleet.specs.declared.schedule.Due.{Due}
use Rattle.waiter_fleet.specs.declared.seat.Seat.{Seat}
use Rattle.waiter_fleet.specs.Acts.{Act, calls_of, events_of}
use Rattle.waiter_fleet.specs.Calls.{FleetCall, timed}
use Rattle.waiter_fleet.specs.Events.{due, ended}
use Rattle.waiter_fleet.specs.Fleets.{AreSeated, Between, GoesFurther, IsScheduled, Over, Popped}
use Rattle.waiter_fleet.specs.Schedules.{Adds, Has, Takes}
use Rattle.waiter_fleet.specs.Steps.{Halts, Kept, Origin}
use Rattle.waiter_fleet.proofs.Standing.{spends-one}

-- one waiter more is due at the start, which is a moment
pub scheduled-more : (count start : ℕ) (dues later : List Due) (moment : ℕ) → moment ≡ start → start < 2 ^ 64 → IsScheduled count start [] dues →
    Adds dues (record { moment = moment; waiter = count }) later → IsScheduled (count + 1) start [] later
scheduled-more count start dues later moment same told scheduled adds = record {
  within = λ one has. elim (adds.none_else one has) [
    | inl is ↦ let P : Due → Type 0 = λ x. x.waiter < count + 1 in subst P (sym is) (omega arith)
    | inr old ↦ let before = scheduled.within one old in omega arith
  ];
  waits = λ one has. refl;
  at = λ one has. elim (adds.none_else one has) [
    | inl is ↦ let P : Due → Type 0 = λ x. x.moment ≡ min (start + 0) (2 ^ 64 - 1) in subst P (sym is) (omega arith)
    | inr old ↦ scheduled.at one old
  ];
  each = λ k within waits. elim (cases_eq k count) [
    | inl is ↦
        let P : ℕ → Type 0 = λ j. Has later (record { moment = min (start + 0) (2 ^ 64 - 1); waiter = j }) in
        let Q : ℕ → Type 0 = λ at. Has later (record { moment = at; waiter = count }) in
        let at : moment ≡ min (start + 0) (2 ^ 64 - 1) = omega arith in
        subst P (sym is) (subst Q at adds.there)
    | inr apart ↦ adds.kept _ (scheduled.each k (omega arith) waits)
  ];
}

pub scheduled-none : (start : ℕ) → IsScheduled 0 start [] []
scheduled-none start = record {
  within = λ one has. absurd has;
  waits = λ one has. absurd has;
  at = λ one has. absurd has;
  each = λ k within waits. absurd (omega arith);
}

-- what is due first has the turn
pub popped-first : (count start : ℕ) (events : List FleetEvent) (dues rest : List Due) (one : Due) →
    IsScheduled count start events dues → Takes dues rest one → Popped count start events one rest
popped-first count start events dues rest one scheduled takes =
    let at : one.moment ≡ due start one.waiter events = scheduled.at one takes.there in
    record {
      turn = record {
        within = scheduled.within one takes.there;
        waits = scheduled.waits one takes.there;
        first = λ other within waits. elim (takes.none_else _ (scheduled.each other within waits)) [
          | inl same ↦
              let moments : due start other events ≡ one.moment = ap (λ (x : Due). x.moment) same in
              let numbers : other ≡ one.waiter = ap (λ (x : Due). x.waiter) same in
              inr (sym at ∙ sym moments, omega arith)
          | inr has ↦ elim (takes.first _ has) [
            | inl less ↦ inl (omega (arith, less))
            | inr tie ↦ inr (sym at ∙ tie.0, omega (arith, tie.1))
          ]
        ];
      };
      within = λ other has. scheduled.within other (takes.kept other has);
      apart = λ other has same.
          let moments : other.moment ≡ one.moment =
          scheduled.at other (takes.kept other has) ∙ (ap (λ w. due start w events) same ∙ sym at) in
          elim (takes.first other has) [
            | inl less ↦ absurd (omega (arith, less))
            | inr tie ↦ absurd (omega (arith, tie.1))
          ];
      waits = λ other has. scheduled.waits other (takes.kept other has);
      at = λ other has. scheduled.at other (takes.kept other has);
      each = λ k within apart waits. elim (takes.none_else _ (scheduled.each k within waits)) [
        | inl same ↦ absurd (apart (ap (λ (x : Due). x.waiter) same))
        | inr has ↦ has
      ];
    }

all_ended : (count start : ℕ) (events : List FleetEvent) → IsScheduled count start events [] → (k : ℕ) → k < count → ended k events ≡ true
all_ended count start events scheduled k within =
    let cases : (over : Bool) → ended k events ≡ over → ended k events ≡ true = elim [
      | true ↦ λ is. is
      | false ↦ λ is. absurd (scheduled.each k within is)
    ] in
    cases (ended k events) refl

module _ {T : Type 0} (does : T → FleetCall → T → Type 0) (o : Origin T) (start : ℕ) where
  pub goes-first : {seats : List Seat} {dues : List Due} {world : T} {fuel : ℕ} → does o.world (timed (Now start)) world →
      fuel ≡ o.fuel → AreSeated o.plans [] seats → IsScheduled (length o.plans) start [] dues →
      GoesFurther does o start seats dues [] o.book world fuel
  goes-first {seats} {dues} {world} {fuel} clock same seated scheduled = record {
    acts = [];
    between = record {
      stands = record {
        kept = record { fleet = tt; books = refl; funded = tt; spends = spends-one does o.world world o.fuel fuel (timed (Now start)) clock (omega arith) };
        logged = refl;
      };
      seated = seated;
      paid = λ waiter. refl;
      settled = refl;
    };
    scheduled = scheduled;
  }

  over-between : {seats : List Seat} {events : List FleetEvent} {book : Book} {world : T} {fuel : ℕ} (acts : List Act) →
      Between does o start acts seats events book world fuel →
      (((waiter : ℕ) → waiter < length o.plans → ended waiter (events_of acts) ≡ true) ⊎ (fuel ≡ 0)) →
      Over does o start seats events book world fuel
  over-between {seats} {events} {book} {world} {fuel} acts between why = record {
    acts = acts;
    rest = [];
    is_rest = inl refl;
    kept = let P : List FleetCall → Type 0 = λ calls. Kept does o start acts calls book world fuel in
        subst P (sym (append-nil (calls_of acts))) between.stands.kept;
    logged = between.stands.logged;
    settled = between.settled;
    count = between.seated.count;
    says = λ k seat got. (between.seated.each k seat got).ends;
    why = why;
  }

  pub over-ended : {seats : List Seat} {dues : List Due} {events : List FleetEvent} {book : Book} {world : T} {fuel : ℕ} →
      GoesFurther does o start seats dues events book world fuel → dues ≡ [] → Over does o start seats events book world fuel
  over-ended {seats} {dues} {events} {book} {world} {fuel} goes none =
      let P : List Due → Type 0 = λ xs. IsScheduled (length o.plans) start (events_of goes.acts) xs in
      over-between goes.acts goes.between (inl (all_ended (length o.plans) start (events_of goes.acts) (subst P none goes.scheduled)))

  pub over-spent : {seats : List Seat} {dues : List Due} {events : List FleetEvent} {book : Book} {world : T} {fuel : ℕ} →
      GoesFurther does o start seats dues events book world fuel → fuel ≡ 0 → Over does o start seats events book world fuel
  over-spent {seats} {dues} {events} {book} {world} {fuel} goes none = over-between goes.acts goes.between (inr none)

  -- an allocation was refused before the first turn
  pub halts-first : {world : T} → does o.world (timed (Now start)) world → Halts does o start o.book world
  halts-first {world} clock = record { acts = []; calls = []; fleet = tt; books = refl; made = (world, clock, refl) }

-- The end of a fleet: who is left over, what was counted, and which plan was bad.
use Rattle.std.proofs.Common.{◌≡◌, ℕ, ◌+◌, ◌≤◌, ◌<◌, ◌^◌, inl, inr, suc, List, [], ◌∷◌, ◌++◌, Ok, Err, Some, None, true, false, arith, ap, sym, subst, refl, ◌∙◌, length, append_assoc, add-one}
use Rattle.std.proofs.lemmas.Bool.{cases_lt}
use Rattle.std.proofs.lemmas.List.{append-nil}
use Rattle.smithy_types.specs.Chain.{Chained}
use Rattle.smithy_types.specs.declared.timers.TimersCall.TheVariants.{Now, Ready, Start, GiveUp}
use Rattle.retry_quota.specs.Book.{Book}
use Rattle.waiter_fleet.specs.declared.event.FleetEnd.TheVariants as end
use Rattle.waiter_fleet.specs.declared.event.FleetEvent.{FleetEvent}
use Rattle.waiter_fleet.specs.declared.event.FleetEvent.TheVariants.{End}
use Rattle.waiter_fleet.specs.declared.plan.Plan.{Plan}
use Rattle.waiter_fleet.specs.declared.seat.Seat.{Seat}
use Rattle.waiter_fleet.specs.Acts.{calls_of, events_of}
use Rattle.waiter_fleet.specs.Calls.{FleetCall, Counts, asks, cost_of, drew, parked, polled, timed, wait_of, waits}
use Rattle.waiter_fleet.specs.Events.{ended, in_order}
use Rattle.waiter_fleet.specs.Fleet.{left_over}
use Rattle.waiter_fleet.specs.Fleets.{Over}
use Rattle.waiter_fleet.specs.Plans.{AllGood, IsFirstBad}
use Rattle.waiter_fleet.specs.Steps.{Origin}
use Rattle.waiter_fleet.specs.Waiting.{WaitsAll}
use Rattle.waiter_fleet.proofs.Notings.{keeps-made}

wait-le : (call : FleetCall) → wait_of call ≤ cost_of call
wait-le (polled number (Ok None)) = omega arith
wait-le (polled number (Ok (Some found))) = omega arith
wait-le (polled number (Err refused)) = omega arith
wait-le (timed (Now moment)) = omega arith
wait-le (timed (Start nanos sleep)) = omega arith
wait-le (timed (Ready sleep true)) = omega arith
wait-le (timed (Ready sleep false)) = omega arith
wait-le (timed (GiveUp sleep)) = omega arith
wait-le (drew word) = omega arith
wait-le parked = omega arith

counted-made : {T : Type 0} (does : T → FleetCall → T → Type 0) (count : T → ℕ) →
    ((old : T) (call : FleetCall) (new : T) → does old call new → Counts (count old) call (count new)) →
    (calls : List FleetCall) (old new : T) → Chained does old calls new → count old + asks calls < 2 ^ 64 → count new ≡ count old + waits calls
counted-made does count counts [] old new same room = ap count same ∙ omega arith
counted-made does count counts (call ∷ calls) old new (mid, done, made) room =
    let law = counts old call mid done in
    let first : count mid ≡ count old + wait_of call = law.1 (omega (arith, wait-le call)) in
    let rest = counted-made does count counts calls mid new made (omega (arith, first, wait-le call)) in
    omega (arith, first, rest)

pub in_order-append : (xs ys : List FleetEvent) → in_order (xs ++ ys) ≡ in_order ys ++ in_order xs
in_order-append [] ys = sym (append-nil (in_order ys))
in_order-append (x ∷ xs) ys =
    ap (λ all. all ++ x ∷ []) (in_order-append xs ys) ∙ append_assoc (in_order ys) (in_order xs) (x ∷ [])

-- one waiter more, which ended or didn't
pub left_over-ended : (waiter : ℕ) (events : List FleetEvent) → ended waiter events ≡ true → left_over (suc waiter) events ≡ left_over waiter events
left_over-ended waiter events over = rw over refl

pub left_over-waits : (waiter : ℕ) (events : List FleetEvent) → ended waiter events ≡ false →
    in_order (left_over (suc waiter) events) ≡ in_order (left_over waiter events) ++ End waiter end.Unfinished ∷ []
left_over-waits waiter events waits = rw waits refl

module _ (waiter : ℕ) (events first now : List FleetEvent) (so_far : now ≡ first ++ in_order (left_over waiter events)) where
  pub leaves-ended : (next : List FleetEvent) → ended waiter events ≡ true → next ≡ now → next ≡ first ++ in_order (left_over (waiter + 1) events)
  leaves-ended next over same =
      let P : ℕ → Type 0 = λ n. next ≡ first ++ in_order (left_over n events) in
      subst P (sym (add-one waiter)) (same ∙ (so_far ∙ ap (λ xs. first ++ in_order xs) (sym (left_over-ended waiter events over))))

  pub leaves-waiting : (next : List FleetEvent) → ended waiter events ≡ false → next ≡ now ++ End waiter end.Unfinished ∷ [] →
      next ≡ first ++ in_order (left_over (waiter + 1) events)
  leaves-waiting next waits same =
      let P : ℕ → Type 0 = λ n. next ≡ first ++ in_order (left_over n events) in
      let own : List FleetEvent = End waiter end.Unfinished ∷ [] in
      subst P (sym (add-one waiter))
      (same ∙ (ap (λ xs. xs ++ own) so_far ∙ (append_assoc first (in_order (left_over waiter events)) own
      ∙ ap (λ xs. first ++ xs) (sym (left_over-waits waiter events waits)))))

-- a fleet that is over waited
pub waits-over : {T : Type 0} (does : T → FleetCall → T → Type 0) (count : T → ℕ) (o : Origin T) (start : ℕ) {seats : List Seat}
    {logged : List FleetEvent} {book : Book} {world : T} {left : ℕ} (events : List FleetEvent) →
    ((old : T) (call : FleetCall) (new : T) → does old call new → Counts (count old) call (count new)) →
    count o.world + o.fuel < 2 ^ 64 → (over : Over does o start seats logged book world left) →
    events ≡ logged ++ in_order (left_over (length seats) (events_of over.acts)) → WaitsAll does count o events book world
waits-over does count o start {seats} {logged} {book} {world} {left} events counts room over same =
    let all = calls_of over.acts ++ over.rest in
    let spent : left + asks (timed (Now start) ∷ all) ≡ o.fuel = over.kept.spends.spent in
    let P : ℕ → Type 0 = λ n. events ≡ in_order (events_of over.acts) ++ in_order (left_over n (events_of over.acts)) in
    let ordered = subst P over.count (same ∙ ap (λ items. items ++ in_order (left_over (length seats) (events_of over.acts))) over.logged) in
    record {
      start = start;
      acts = over.acts;
      fleet = over.kept.fleet;
      settled = over.settled;
      happened = ordered ∙ sym (in_order-append (left_over (length o.plans) (events_of over.acts)) (events_of over.acts));
      books = over.kept.books;
      rest = over.rest;
      is_rest = over.is_rest;
      made = over.kept.spends.made;
      kept = λ answers moment keeps.
          keeps-made does answers moment keeps.notes keeps.tells o start over.acts over.rest o.world world over.is_rest over.kept.spends.made;
      within = omega (arith, spent);
      funded = over.kept.funded;
      all_spent = λ waiter numbered waits. elim over.why [
        | inl ended_all ↦ let clash = ended_all waiter numbered in absurd (cc (sym clash ∙ waits))
        | inr none ↦ omega (arith, spent, none)
      ];
      counted =
          let told = counted-made does count counts (timed (Now start) ∷ all) o.world world over.kept.spends.made (omega (arith, spent)) in
          omega (arith, told);
    }

-- a bad plan isn't among good ones
pub good_not_bad : (plans : List Plan) (waiter : ℕ) → AllGood plans → IsFirstBad plans waiter → ⊥
good_not_bad plans waiter good bad =
    let is = good waiter bad.plan bad.there in
    cc (sym is ∙ bad.bad)

-- and only one is the first
pub first_bad_once : (plans : List Plan) (one other : ℕ) → IsFirstBad plans one → IsFirstBad plans other → one ≡ other
first_bad_once plans one other first second =
    elim (cases_lt one other) [
      | inl less ↦ let is = second.earlier one first.plan less first.there in absurd (cc (sym is ∙ first.bad))
      | inr most ↦ elim (cases_lt other one) [
        | inl less ↦ let is = first.earlier other second.plan less second.there in absurd (cc (sym is ∙ second.bad))
        | inr least ↦ omega (arith, most, least)
      ]
    ]

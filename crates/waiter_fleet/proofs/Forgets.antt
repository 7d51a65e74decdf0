-- What a fleet's charges make of the bucket.
use Rattle.std.proofs.Common.{◌≡◌, ℕ, ◌+◌, ◌*◌, ◌/◌, ◌≤◌, ◌<◌, List, [], ◌∷◌, Bool, true, false, arith, ap, sym, subst, refl, ◌∙◌, nat_le, if◌then◌else◌}
use Rattle.std.proofs.lemmas.Bool.Decides.{nat_tests}
use Rattle.smithy_types.specs.declared.kinds.ErrorKind.TheVariants.{ServerError}
use Rattle.waiters.specs.Delay.{second}
use Rattle.retry_quota.specs.Book.{Book, IsBalanced, cost_of, forget, ready, refill, spend}
use Rattle.retry_quota.specs.History.{Acquire, Forget, after, is_granted}
use Rattle.retry_quota.proofs.BookLemmas.{balanced-after}
use Rattle.waiter_fleet.specs.declared.event.FleetEvent.{FleetEvent}
use Rattle.waiter_fleet.specs.declared.event.FleetEvent.TheVariants.{Poll, Sleep, Charged, Refused, End}
use Rattle.waiter_fleet.specs.declared.plan.Plan.{Plan}
use Rattle.waiter_fleet.specs.Events.{book_after}
use Rattle.waiter_fleet.specs.Fleet.{IsFleet}
use Rattle.waiter_fleet.specs.Laws.{charged_in_all}
use Rattle.waiter_fleet.proofs.Pays.{cost-book_after}

-- what two values share, the chosen one has
same_if : {X Y : Type 0} → (g : X → Y) (t : Bool) (x y : X) (n : Y) → g x ≡ n → g y ≡ n → g (if t then x else y) ≡ n
same_if g true x y n here there = here
same_if g false x y n here there = there

forgotten-ready : (now : ℕ) (b : Book) → (ready now b).forgotten ≡ b.forgotten
forgotten-ready now b =
    let refilled : (refill now b).forgotten ≡ b.forgotten = same_if (λ (one : Book). one.forgotten) _ _ _ b.forgotten refl refl in
    same_if (λ (one : Book). one.forgotten) _ _ _ (refill now b).forgotten refl refl ∙ refilled

forgotten-acquire : (now : ℕ) (b : Book) → (after (Acquire ServerError now) b).forgotten ≡ b.forgotten
forgotten-acquire now b =
    same_if (λ (one : Book). one.forgotten) (is_granted ServerError now b) (spend (cost_of ServerError b) (ready now b)) (ready now b) b.forgotten
    (forgotten-ready now b) (forgotten-ready now b)

forgotten-spent : (cost : ℕ) (b : Book) → (forget cost (spend cost b)).forgotten ≡ b.forgotten + cost
forgotten-spent cost b =
    let test : nat_le cost (b.held + cost) ≡ true = grind (arith, nat_tests) in
    rw test refl

forgotten-charge : (now cost : ℕ) (b : Book) → is_granted ServerError now b ≡ true → cost ≡ cost_of ServerError b →
    (after (Forget cost) (after (Acquire ServerError now) b)).forgotten ≡ b.forgotten + cost
forgotten-charge now cost b granted is =
    let spent : after (Acquire ServerError now) b ≡ spend (cost_of ServerError b) (ready now b) = rw granted refl in
    let P : Book → Type 0 = λ one. (forget cost one).forgotten ≡ b.forgotten + cost in
    let Q : ℕ → Type 0 = λ c. (forget c (spend (cost_of ServerError b) (ready now b))).forgotten ≡ b.forgotten + c in
    let whole : (forget (cost_of ServerError b) (spend (cost_of ServerError b) (ready now b))).forgotten ≡ b.forgotten + cost_of ServerError b =
    forgotten-spent (cost_of ServerError b) (ready now b) ∙ ap (λ n. n + cost_of ServerError b) (forgotten-ready now b) in
    subst P (sym spent) (subst Q (sym is) whole)

-- the charges' costs are what was forgotten
pub forgotten-fleet : (plans : List Plan) (book : Book) (start : ℕ) (events : List FleetEvent) → IsFleet plans book start events →
    (book_after book events).forgotten ≡ book.forgotten + cost_of ServerError book * charged_in_all events
forgotten-fleet plans book start [] fleet = omega arith
forgotten-fleet plans book start (Poll waiter number moment seen state ∷ before) fleet = forgotten-fleet plans book start before fleet.1
forgotten-fleet plans book start (Sleep waiter nanos elapsed word ∷ before) fleet = forgotten-fleet plans book start before fleet.1
forgotten-fleet plans book start (End waiter ending ∷ before) fleet = forgotten-fleet plans book start before fleet.1
forgotten-fleet plans book start (Refused waiter cost moment ∷ before) fleet =
    forgotten-acquire (moment / second) (book_after book before) ∙ forgotten-fleet plans book start before fleet.1
forgotten-fleet plans book start (Charged waiter moment ∷ before) fleet =
    let more = forgotten-charge (moment / second) (cost_of ServerError book) (book_after book before) fleet.0.answer (sym (cost-book_after book before)) in
    let earlier = forgotten-fleet plans book start before fleet.1 in
    more ∙ one_more (cost_of ServerError book) (charged_in_all before) book.forgotten (book_after book before).forgotten earlier
  where
    one_more : (cost count was now : ℕ) → now ≡ was + cost * count → now + cost ≡ was + cost * (count + 1)
    one_more cost count was now is = omega (arith, is)

-- no step of a fleet unbalances a bucket
pub balanced-fleet : (book : Book) (events : List FleetEvent) → IsBalanced book → IsBalanced (book_after book events)
balanced-fleet book [] balanced = balanced
balanced-fleet book (Poll waiter number moment seen state ∷ before) balanced = balanced-fleet book before balanced
balanced-fleet book (Sleep waiter nanos elapsed word ∷ before) balanced = balanced-fleet book before balanced
balanced-fleet book (End waiter ending ∷ before) balanced = balanced-fleet book before balanced
balanced-fleet book (Refused waiter cost moment ∷ before) balanced =
    balanced-after (Acquire ServerError (moment / second)) (book_after book before) (balanced-fleet book before balanced)
balanced-fleet book (Charged waiter moment ∷ before) balanced =
    let ask = Acquire ServerError (moment / second) in
    balanced-after (Forget (cost_of ServerError book)) (after ask (book_after book before))
    (balanced-after ask (book_after book before) (balanced-fleet book before balanced))

refused-below : (cost available : ℕ) → nat_le cost available ≡ false → available < cost
refused-below cost available refused = grind (arith, nat_tests)

granted-within : (cost available : ℕ) → nat_le cost available ≡ true → cost ≤ available
granted-within cost available granted = grind (arith, nat_tests)

pub refused-short : (plans : List Plan) (book : Book) (start waiter cost moment : ℕ) (before : List FleetEvent) →
    IsFleet plans book start (Refused waiter cost moment ∷ before) → (ready (moment / second) (book_after book before)).available < cost
refused-short plans book start waiter cost moment before fleet =
    let short = refused-below (cost_of ServerError (book_after book before)) (ready (moment / second) (book_after book before)).available fleet.0.0.answer in
    omega (arith, short, cost-book_after book before, fleet.0.1)

pub charged-enough : (plans : List Plan) (book : Book) (start waiter moment : ℕ) (before : List FleetEvent) →
    IsFleet plans book start (Charged waiter moment ∷ before) → cost_of ServerError book ≤ (ready (moment / second) (book_after book before)).available
charged-enough plans book start waiter moment before fleet =
    let enough = granted-within (cost_of ServerError (book_after book before)) (ready (moment / second) (book_after book before)).available fleet.0.answer in
    omega (arith, enough, cost-book_after book before)

pub charges-bounded : (plans : List Plan) (book : Book) (start : ℕ) (events : List FleetEvent) → IsFleet plans book start events → IsBalanced book →
    cost_of ServerError book * charged_in_all events ≤ (book_after book events).capacity + (book_after book events).granted
charges-bounded plans book start events fleet balanced =
    let whole = balanced-fleet book events balanced in
    let spent = forgotten-fleet plans book start events fleet in
    omega (arith, whole, spent)

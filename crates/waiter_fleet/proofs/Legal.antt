-- A fleet's steps of the bucket are a legal history.
use Rattle.std.proofs.Common.{◌≡◌, ℕ, ◌/◌, List, [], ◌∷◌, ◌++◌, true, false, ap, sym, subst, refl, ◌∙◌}
use Rattle.smithy_types.specs.declared.kinds.ErrorKind.TheVariants.{ServerError}
use Rattle.waiters.specs.Delay.{second}
use Rattle.retry_quota.specs.Book.{Book, cost_of}
use Rattle.retry_quota.specs.History.{Acquire, Done, Entry, Forget, Granted, IsLegal, Reply, after, end_of, is_granted, reply_to}
use Rattle.retry_quota.specs.History as history
use Rattle.retry_quota.proofs.BookLemmas.{end_of-append, legal-joined}
use Rattle.waiter_fleet.specs.declared.event.FleetEvent.{FleetEvent}
use Rattle.waiter_fleet.specs.declared.event.FleetEvent.TheVariants.{Poll, Sleep, Charged, Refused, End}
use Rattle.waiter_fleet.specs.declared.plan.Plan.{Plan}
use Rattle.waiter_fleet.specs.Events.{book_after}
use Rattle.waiter_fleet.specs.Fleet.{IsFleet}
use Rattle.waiter_fleet.specs.Laws.{steps_of}
use Rattle.waiter_fleet.proofs.Pays.{cost-book_after}

-- where the book that entries leave is known, further entries join them
joined : (book mid : Book) (xs ys : List Entry) → IsLegal book xs → end_of book xs ≡ mid → IsLegal mid ys → IsLegal book (xs ++ ys)
joined book mid xs ys first ends second =
    let P : Book → Type 0 = λ one. IsLegal one ys in
    legal-joined xs ys book first (subst P (sym ends) second)

joined-ends : (book mid : Book) (xs ys : List Entry) → end_of book xs ≡ mid → end_of book (xs ++ ys) ≡ end_of mid ys
joined-ends book mid xs ys ends = end_of-append xs ys book ∙ ap (λ one. end_of one ys) ends

granted-reply : (now cost : ℕ) (b : Book) → is_granted ServerError now b ≡ true → cost ≡ cost_of ServerError b → Granted cost ≡ reply_to (Acquire ServerError now) b
granted-reply now cost b granted is = rw (granted, is) refl

refused-reply : (now : ℕ) (b : Book) → is_granted ServerError now b ≡ false → history.Refused ≡ reply_to (Acquire ServerError now) b
refused-reply now b refused = rw refused refl

pub legal-fleet : (plans : List Plan) (book : Book) (start : ℕ) (events : List FleetEvent) → IsFleet plans book start events →
    IsLegal book (steps_of (cost_of ServerError book) events) × (end_of book (steps_of (cost_of ServerError book) events) ≡ book_after book events)
legal-fleet plans book start [] fleet = (tt, refl)
legal-fleet plans book start (Poll waiter number moment seen state ∷ before) fleet = legal-fleet plans book start before fleet.1
legal-fleet plans book start (Sleep waiter nanos elapsed word ∷ before) fleet = legal-fleet plans book start before fleet.1
legal-fleet plans book start (End waiter ending ∷ before) fleet = legal-fleet plans book start before fleet.1
legal-fleet plans book start (Charged waiter moment ∷ before) fleet =
    let cost = cost_of ServerError book in
    let mid = book_after book before in
    let earlier = legal-fleet plans book start before fleet.1 in
    let own : List Entry = record { step = Acquire ServerError (moment / second); reply = Granted cost } ∷ record { step = Forget cost; reply = Done } ∷ [] in
    let reply = granted-reply (moment / second) cost mid fleet.0.answer (sym (cost-book_after book before)) in
    (joined book mid (steps_of cost before) own earlier.0 earlier.1 (reply, (refl, tt)), joined-ends book mid (steps_of cost before) own earlier.1)
legal-fleet plans book start (Refused waiter refused moment ∷ before) fleet =
    let cost = cost_of ServerError book in
    let mid = book_after book before in
    let earlier = legal-fleet plans book start before fleet.1 in
    let own : List Entry = record { step = Acquire ServerError (moment / second); reply = history.Refused } ∷ [] in
    let reply = refused-reply (moment / second) mid fleet.0.0.answer in
    (joined book mid (steps_of cost before) own earlier.0 earlier.1 (reply, tt), joined-ends book mid (steps_of cost before) own earlier.1)

-- A waiter's charges are those of its later polls, and perhaps of one that wasn't made any more.
use Rattle.std.proofs.Common.{◌≡◌, ℕ, ◌+◌, inl, inr, List, ◌∷◌, [], Bool, true, false, arith, ap, sym, subst, refl, if◌then◌else◌}
use Rattle.std.specs.Prelude.{◌==◌}
use Rattle.std.proofs.lemmas.Bool.Decides.{nat_tests}
use Rattle.retry_quota.specs.Book.{Book}
use Rattle.waiters.specs.Walk.{Verdict}
use Rattle.waiter_fleet.specs.declared.event.FleetEnd.{FleetEnd}
use Rattle.waiter_fleet.specs.declared.event.FleetEnd.TheVariants as end
use Rattle.waiter_fleet.specs.declared.event.FleetEvent.{FleetEvent}
use Rattle.waiter_fleet.specs.declared.event.FleetEvent.TheVariants.{Poll, Sleep, Charged, Refused, End}
use Rattle.waiter_fleet.specs.declared.plan.Plan.{Plan}
use Rattle.waiter_fleet.specs.Events.{charges, ended, polls}
use Rattle.waiter_fleet.specs.Fleet.{Behind, IsFleet, MayEnd}
use Rattle.waiter_fleet.specs.Laws.{PaysItsPolls}
use Rattle.waiter_fleet.proofs.Others.{eq_self}

eq_true : (m n : ℕ) → (m == n) ≡ true → m ≡ n
eq_true m n is = grind (arith, nat_tests)

module _ (plans : List Plan) (book : Book) (start waiter : ℕ) where
  -- behind its poll or its refusal a waiter has no charge to spare
  none_spare : (before : List FleetEvent) (follows : Plan → Bool → ℕ → ℕ → Verdict → Type 0) → IsFleet plans book start before →
      Behind plans book start before waiter follows → charges waiter before + 1 ≡ polls waiter before
  none_spare before follows fleet behind =
      let F : List FleetEvent → Type 0 = λ events. IsFleet plans book start events in
      let P : List FleetEvent → Type 0 = λ events. charges waiter events + 1 ≡ polls waiter events in
      let literal = subst F behind.poll.is fleet in
      let test = eq_self waiter in
      subst P (sym behind.poll.is) (rw test (ap (λ n. n + 1) literal.0.paid))

  none_spare-refused : (before earlier : List FleetEvent) (cost moment : ℕ) → IsFleet plans book start before →
      before ≡ Refused waiter cost moment ∷ earlier → charges waiter before + 1 ≡ polls waiter before
  none_spare-refused before earlier cost moment fleet is =
      let F : List FleetEvent → Type 0 = λ events. IsFleet plans book start events in
      let P : List FleetEvent → Type 0 = λ events. charges waiter events + 1 ≡ polls waiter events in
      let literal = subst F is fleet in
      subst P (sym is) literal.0.0.unpaid

  none_spare-end : (before : List FleetEvent) (ending : FleetEnd) → IsFleet plans book start before → MayEnd plans book start before waiter ending →
      charges waiter before + 1 ≡ polls waiter before
  none_spare-end before end.Ok fleet may = none_spare before _ fleet may
  none_spare-end before end.OperationFailed fleet may = none_spare before _ fleet may
  none_spare-end before end.FailureState fleet may = none_spare before _ fleet may
  none_spare-end before (end.ExceededMaxWait max_wait passed poll_count) fleet may = none_spare before _ fleet may
  none_spare-end before (end.NoQuota cost) fleet may = none_spare-refused before may.0 cost may.1 fleet may.2
  none_spare-end before end.Unfinished fleet may = absurd may

  -- an event of another waiter, or one that pays for nothing and polls nothing
  pays-poll : (one number : ℕ) (before : List FleetEvent) → PaysItsPolls (charges waiter before) (polls waiter before) (ended waiter before) →
      (one ≡ waiter → charges waiter before ≡ polls waiter before) →
      PaysItsPolls (charges waiter before) (if one == waiter then polls waiter before + 1 else polls waiter before) (ended waiter before)
  pays-poll one number before old paid =
      let cases : (test : Bool) → (one == waiter) ≡ test →
      PaysItsPolls (charges waiter before) (if test then polls waiter before + 1 else polls waiter before) (ended waiter before) = elim [
        | true ↦ λ is. let own = paid (eq_true one waiter is) in inl (omega (arith, own))
        | false ↦ λ is. old
      ] in
      cases (one == waiter) refl

  pays-charge : (one : ℕ) (before : List FleetEvent) → PaysItsPolls (charges waiter before) (polls waiter before) (ended waiter before) →
      (one ≡ waiter → (charges waiter before + 1 ≡ polls waiter before) × (ended waiter before ≡ false)) →
      PaysItsPolls (if one == waiter then charges waiter before + 1 else charges waiter before) (polls waiter before) (ended waiter before)
  pays-charge one before old unpaid =
      let cases : (test : Bool) → (one == waiter) ≡ test →
      PaysItsPolls (if test then charges waiter before + 1 else charges waiter before) (polls waiter before) (ended waiter before) = elim [
        | true ↦ λ is. inr (unpaid (eq_true one waiter is))
        | false ↦ λ is. old
      ] in
      cases (one == waiter) refl

  pays-end : (one : ℕ) (before : List FleetEvent) → PaysItsPolls (charges waiter before) (polls waiter before) (ended waiter before) →
      (one ≡ waiter → charges waiter before + 1 ≡ polls waiter before) →
      PaysItsPolls (charges waiter before) (polls waiter before) (if one == waiter then true else ended waiter before)
  pays-end one before old spent =
      let cases : (test : Bool) → (one == waiter) ≡ test →
      PaysItsPolls (charges waiter before) (polls waiter before) (if test then true else ended waiter before) = elim [
        | true ↦ λ is. let own = spent (eq_true one waiter is) in inl (omega (arith, own))
        | false ↦ λ is. old
      ] in
      cases (one == waiter) refl

  pub pays-fleet : (events : List FleetEvent) → IsFleet plans book start events →
      PaysItsPolls (charges waiter events) (polls waiter events) (ended waiter events)
  pays-fleet [] fleet = inl refl
  pays-fleet (Poll one number moment seen state ∷ before) fleet =
      let P : ℕ → Type 0 = λ w. charges w before ≡ polls w before in
      pays-poll one number before (pays-fleet before fleet.1) (λ own. subst P own fleet.0.paid)
  pays-fleet (Sleep one nanos elapsed word ∷ before) fleet = pays-fleet before fleet.1
  pays-fleet (Charged one moment ∷ before) fleet =
      let P : ℕ → Type 0 = λ w. (charges w before + 1 ≡ polls w before) × (ended w before ≡ false) in
      pays-charge one before (pays-fleet before fleet.1) (λ own. subst P own (fleet.0.unpaid, fleet.0.turn.waits))
  pays-fleet (Refused one cost moment ∷ before) fleet = pays-fleet before fleet.1
  pays-fleet (End one ending ∷ before) fleet =
      let P : ℕ → Type 0 = λ w. MayEnd plans book start before w ending in
      pays-end one before (pays-fleet before fleet.1) (λ own. none_spare-end before ending fleet.1 (subst P own fleet.0))

-- A waiter's own events are those of its turns, and what stands behind them.
use Rattle.std.proofs.Common.{◌≡◌, ℕ, ◌-◌, List, [], ◌∷◌, ◌++◌, Bool, true, false, arith, ap, sym, subst, refl, ◌∙◌, length, if◌then◌else◌}
use Rattle.std.specs.Prelude.{◌==◌}
use Rattle.smithy_types.specs.declared.acceptor.AcceptorState.{AcceptorState}
use Rattle.waiters.specs.Walk.{Verdict}
use Rattle.retry_quota.specs.Book.{Book}
use Rattle.waiter_fleet.specs.declared.event.FleetEnd.{FleetEnd}
use Rattle.waiter_fleet.specs.declared.event.FleetEnd.TheVariants as end
use Rattle.waiter_fleet.specs.declared.event.FleetEvent.{FleetEvent}
use Rattle.waiter_fleet.specs.declared.event.FleetEvent.TheVariants.{Poll, Sleep, Charged, Refused, End}
use Rattle.waiter_fleet.specs.declared.event.Seen.{Seen}
use Rattle.waiter_fleet.specs.declared.plan.Plan.{Plan}
use Rattle.waiter_fleet.specs.Events.{ended}
use Rattle.waiter_fleet.specs.Fleet.{Behind, GoesOn, IsFleet, MayEnd, number_behind}
use Rattle.waiter_fleet.specs.Walks.{IsLast, a_poll, a_refusal, an_end, last_events, nothing, own_events, spelled, turned_by, turns_of}
use Rattle.waiter_fleet.proofs.Others.{eq_self}
use Rattle.waiter_fleet.proofs.Walkings.{eq_true, not_open, open-behind, open_poll, polls-turns, settled-open}

module _ (plans : List Plan) (book : Book) (start waiter : ℕ) where
  -- where no poll of a waiter stands last that hasn't ended, its last own event is a sleep
  none_last : (events : List FleetEvent) → IsFleet plans book start events → ended waiter events ≡ false → open_poll waiter events ≡ 0 →
      last_events waiter events ≡ []
  none_last [] fleet waits none = refl
  none_last (Poll one number moment seen state ∷ before) fleet waits none =
      let cases : (test : Bool) → ◌≡◌ {A = ℕ} (if test then 1 else 0) 0 →
      (if test then Poll one number moment seen state ∷ last_events waiter before else last_events waiter before) ≡ [] = elim [
        | true ↦ λ is. absurd (cc is)
        | false ↦ λ is. none_last before fleet.1 waits (settled-open waiter before fleet.0.settled)
      ] in
      cases (one == waiter) none
  none_last (Sleep one nanos elapsed word ∷ before) fleet waits none =
      let cases : (test : Bool) → (one == waiter) ≡ test → (if test then [] else last_events waiter before) ≡ [] = elim [
        | true ↦ λ is. refl
        | false ↦ λ is. none_last before fleet.1 waits
            (open-behind plans book start waiter before one _ fleet.0 ∙ ap (λ test. if test then 1 else 0) is)
      ] in
      cases (one == waiter) refl
  none_last (Charged one moment ∷ before) fleet waits none = none_last before fleet.1 waits (settled-open waiter before fleet.0.settled)
  none_last (Refused one cost moment ∷ before) fleet waits none = none_last before fleet.1 waits (settled-open waiter before fleet.0.0.settled)
  none_last (End one ending ∷ before) fleet waits none =
      let cases : (test : Bool) → (one == waiter) ≡ test → (if test then true else ended waiter before) ≡ false →
      (if test then End one ending ∷ last_events waiter before else last_events waiter before) ≡ [] = elim [
        | true ↦ λ is over. absurd (cc over)
        | false ↦ λ is still. none_last before fleet.1 still (not_open plans book start waiter before one ending is fleet.0)
      ] in
      cases (one == waiter) refl waits

  -- a poll that stands last has nothing behind it but the turns
  poll-last : (number moment : ℕ) (seen : Seen) (state : AcceptorState) (earlier : List FleetEvent) →
      IsFleet plans book start (Poll waiter number moment seen state ∷ earlier) →
      last_events waiter (Poll waiter number moment seen state ∷ earlier) ≡ Poll waiter number moment seen state ∷ []
  poll-last number moment seen state earlier fleet =
      let test = eq_self waiter in
      let none = none_last earlier fleet.1 fleet.0.turn.waits (settled-open waiter earlier fleet.0.settled) in
      rw test (ap (λ events. Poll waiter number moment seen state ∷ events) none)

  poll-numbered : (number moment : ℕ) (seen : Seen) (state : AcceptorState) (earlier : List FleetEvent) →
      IsFleet plans book start (Poll waiter number moment seen state ∷ earlier) → number ≡ number_behind (length (turns_of waiter earlier))
  poll-numbered number moment seen state earlier fleet =
      let counted = polls-turns plans book start waiter earlier fleet.1 fleet.0.turn.waits in
      let none = settled-open waiter earlier fleet.0.settled in
      let numbered = fleet.0.numbered in
      omega (arith, counted, none, numbered)

  -- what a sleep makes of the own events
  sleep-spelled : (one nanos elapsed word : ℕ) (before : List FleetEvent) →
      (behind : Behind plans book start before one (λ plan used number passed verdict. (elapsed ≡ passed) × GoesOn plan used number passed verdict word nanos)) →
      IsFleet plans book start before → one ≡ waiter →
      own_events waiter before ≡ last_events waiter before ++ spelled start waiter (turns_of waiter before) →
      Sleep one nanos elapsed word ∷ own_events waiter before ≡ spelled start waiter (turned_by nanos word before (turns_of waiter before))
  sleep-spelled one nanos elapsed word before behind fleet own earlier_own =
      let poll = behind.poll in
      let earlier = poll.earlier in
      let F : List FleetEvent → Type 0 = λ events. IsFleet plans book start events in
      let G : ℕ → Type 0 = λ w. IsFleet plans book start (Poll w behind.number behind.moment poll.seen poll.state ∷ earlier) in
      let literal = subst G own (subst F poll.is fleet) in
      let is : before ≡ Poll waiter behind.number behind.moment poll.seen poll.state ∷ earlier =
      let P : ℕ → Type 0 = λ w. before ≡ Poll w behind.number behind.moment poll.seen poll.state ∷ earlier in subst P own poll.is in
      let last = poll-last behind.number behind.moment poll.seen poll.state earlier literal in
      let numbered = poll-numbered behind.number behind.moment poll.seen poll.state earlier literal in
      let Q : List FleetEvent → Type 0 = λ events.
      own_events waiter events ≡ last_events waiter events ++ spelled start waiter (turns_of waiter events) →
      Sleep one nanos elapsed word ∷ own_events waiter events ≡ spelled start waiter (turned_by nanos word events (turns_of waiter events)) in
      let turns = turns_of waiter earlier in
      let whole : Q (Poll waiter behind.number behind.moment poll.seen poll.state ∷ earlier) = λ spells.
      let tail = spells ∙ ap (λ events. events ++ spelled start waiter turns) last in
      ap (λ events. Sleep one nanos elapsed word ∷ events) tail
      ∙ (ap (λ w. Sleep w nanos elapsed word ∷ Poll waiter behind.number behind.moment poll.seen poll.state ∷ spelled start waiter turns) own
      ∙ (ap (λ passed. Sleep waiter nanos passed word ∷ Poll waiter behind.number behind.moment poll.seen poll.state ∷ spelled start waiter turns) behind.so.0
      ∙ ap (λ n. Sleep waiter nanos (behind.moment - start) word ∷ Poll waiter n behind.moment poll.seen poll.state ∷ spelled start waiter turns) numbered)) in
      subst Q (sym is) whole earlier_own

  pub spelled-fleet : (events : List FleetEvent) → IsFleet plans book start events →
      own_events waiter events ≡ last_events waiter events ++ spelled start waiter (turns_of waiter events)
  spelled-fleet [] fleet = refl
  spelled-fleet (Poll one number moment seen state ∷ before) fleet =
      let own = spelled-fleet before fleet.1 in
      let event : FleetEvent = Poll one number moment seen state in
      let cases : (test : Bool) → (if test then event ∷ own_events waiter before else own_events waiter before)
      ≡ (if test then event ∷ last_events waiter before else last_events waiter before) ++ spelled start waiter (turns_of waiter before) = elim [
        | true ↦ ap (λ events. event ∷ events) own
        | false ↦ own
      ] in
      cases (one == waiter)
  spelled-fleet (Sleep one nanos elapsed word ∷ before) fleet =
      let own = spelled-fleet before fleet.1 in
      let event : FleetEvent = Sleep one nanos elapsed word in
      let cases : (test : Bool) → (one == waiter) ≡ test → (if test then event ∷ own_events waiter before else own_events waiter before)
      ≡ (if test then [] else last_events waiter before)
      ++ spelled start waiter (if test then turned_by nanos word before (turns_of waiter before) else turns_of waiter before) = elim [
        | true ↦ λ is. sleep-spelled one nanos elapsed word before fleet.0 fleet.1 (eq_true one waiter is) own
        | false ↦ λ is. own
      ] in
      cases (one == waiter) refl
  spelled-fleet (Charged one moment ∷ before) fleet = spelled-fleet before fleet.1
  spelled-fleet (Refused one cost moment ∷ before) fleet = spelled-fleet before fleet.1
  spelled-fleet (End one ending ∷ before) fleet =
      let own = spelled-fleet before fleet.1 in
      let event : FleetEvent = End one ending in
      let cases : (test : Bool) → (if test then event ∷ own_events waiter before else own_events waiter before)
      ≡ (if test then event ∷ last_events waiter before else last_events waiter before) ++ spelled start waiter (turns_of waiter before) = elim [
        | true ↦ ap (λ events. event ∷ events) own
        | false ↦ own
      ] in
      cases (one == waiter)

  -- a waiter's end stands behind its poll
  end-behind : (before : List FleetEvent) (ending : FleetEnd) (follows : Plan → Bool → ℕ → ℕ → Verdict → Type 0) → IsFleet plans book start before →
      Behind plans book start before waiter follows → IsLast waiter (End waiter ending ∷ last_events waiter before)
  end-behind before ending follows fleet behind =
      let poll = behind.poll in
      let F : List FleetEvent → Type 0 = λ events. IsFleet plans book start events in
      let L : List FleetEvent → Type 0 = λ events. IsLast waiter (End waiter ending ∷ last_events waiter events) in
      let M : List FleetEvent → Type 0 = λ events. IsLast waiter (End waiter ending ∷ events) in
      let last = poll-last behind.number behind.moment poll.seen poll.state poll.earlier (subst F poll.is fleet) in
      subst L (sym poll.is) (subst M (sym last) (an_end behind.number behind.moment poll.seen poll.state ending))

  -- or behind its refusal
  end-refused : (before earlier : List FleetEvent) (cost moment : ℕ) → IsFleet plans book start before →
      before ≡ Refused waiter cost moment ∷ earlier → IsLast waiter (End waiter (end.NoQuota cost) ∷ last_events waiter before)
  end-refused before earlier cost moment fleet is =
      let F : List FleetEvent → Type 0 = λ events. IsFleet plans book start events in
      let L : List FleetEvent → Type 0 = λ events. IsLast waiter (End waiter (end.NoQuota cost) ∷ last_events waiter events) in
      let M : List FleetEvent → Type 0 = λ events. IsLast waiter (End waiter (end.NoQuota cost) ∷ events) in
      let literal = subst F is fleet in
      let none = none_last earlier literal.1 literal.0.0.turn.waits (settled-open waiter earlier literal.0.0.settled) in
      subst L (sym is) (subst M (sym none) (a_refusal cost))

  end-last : (before : List FleetEvent) (ending : FleetEnd) → IsFleet plans book start before → MayEnd plans book start before waiter ending →
      IsLast waiter (End waiter ending ∷ last_events waiter before)
  end-last before end.Ok fleet may = end-behind before end.Ok _ fleet may
  end-last before end.OperationFailed fleet may = end-behind before end.OperationFailed _ fleet may
  end-last before end.FailureState fleet may = end-behind before end.FailureState _ fleet may
  end-last before (end.ExceededMaxWait max_wait passed poll_count) fleet may = end-behind before (end.ExceededMaxWait max_wait passed poll_count) _ fleet may
  end-last before (end.NoQuota cost) fleet may = end-refused before may.0 cost may.1 fleet may.2
  end-last before end.Unfinished fleet may = absurd may

  pub last-fleet : (events : List FleetEvent) → IsFleet plans book start events → IsLast waiter (last_events waiter events)
  last-fleet [] fleet = nothing
  last-fleet (Poll one number moment seen state ∷ before) fleet =
      let old = last-fleet before fleet.1 in
      let G : ℕ → Type 0 = λ w. IsFleet plans book start (Poll w number moment seen state ∷ before) in
      let S : ℕ → Type 0 = λ w. IsLast waiter (Poll w number moment seen state ∷ last_events waiter before) in
      let M : List FleetEvent → Type 0 = λ events. IsLast waiter (Poll waiter number moment seen state ∷ events) in
      let cases : (test : Bool) → (one == waiter) ≡ test →
      IsLast waiter (if test then Poll one number moment seen state ∷ last_events waiter before else last_events waiter before) = elim [
        | true ↦ λ is.
            let own = eq_true one waiter is in
            let literal = subst G own fleet in
            let none = none_last before literal.1 literal.0.turn.waits (settled-open waiter before literal.0.settled) in
            subst S (sym own) (subst M (sym none) (a_poll number moment seen state))
        | false ↦ λ is. old
      ] in
      cases (one == waiter) refl
  last-fleet (Sleep one nanos elapsed word ∷ before) fleet =
      let old = last-fleet before fleet.1 in
      let cases : (test : Bool) → IsLast waiter (if test then [] else last_events waiter before) = elim [
        | true ↦ nothing
        | false ↦ old
      ] in
      cases (one == waiter)
  last-fleet (Charged one moment ∷ before) fleet = last-fleet before fleet.1
  last-fleet (Refused one cost moment ∷ before) fleet = last-fleet before fleet.1
  last-fleet (End one ending ∷ before) fleet =
      let old = last-fleet before fleet.1 in
      let P : ℕ → Type 0 = λ w. MayEnd plans book start before w ending in
      let S : ℕ → Type 0 = λ w. IsLast waiter (End w ending ∷ last_events waiter before) in
      let cases : (test : Bool) → (one == waiter) ≡ test →
      IsLast waiter (if test then End one ending ∷ last_events waiter before else last_events waiter before) = elim [
        | true ↦ λ is.
            let own = eq_true one waiter is in
            subst S (sym own) (end-last before ending fleet.1 (subst P own fleet.0))
        | false ↦ λ is. old
      ] in
      cases (one == waiter) refl

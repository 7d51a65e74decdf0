-- A waiter's own events are the walk of its plan.
use Rattle.std.proofs.Common.{◌≡◌, ℕ, ◌+◌, ◌-◌, ◌≤◌, List, [], ◌∷◌, Bool, true, false, Result, Some, arith, ap, sym, subst, refl, ◌∙◌, length, slice_get, add-one, if◌then◌else◌}
use Rattle.std.specs.Prelude.{◌==◌, ◌||◌}
use Rattle.std.proofs.lemmas.Bool.Decides.{nat_tests}
use Rattle.std.specs.Borrow.{Bor}
use Rattle.smithy_types.specs.declared.acceptor.AcceptorState.{AcceptorState}
use Rattle.smithy_types.specs.declared.acceptor.AcceptorState.TheVariants.{NoAcceptorsMatched, Success, Failure, Retry}
use Rattle.smithy_types.specs.declared.fault.Fault.{Fault}
use Rattle.smithy_types.specs.declared.http.HttpResponse.{HttpResponse}
use Rattle.smithy_types.specs.declared.payload.Payload.{Payload}
use Rattle.waiters.specs.declared.backoff.Backoff.{Backoff}
use Rattle.waiters.specs.Delay.{IsDelay}
use Rattle.waiters.specs.Walk as walk
use Rattle.retry_quota.specs.Book.{Book}
use Rattle.waiter_fleet.specs.declared.event.FleetEnd.{FleetEnd}
use Rattle.waiter_fleet.specs.declared.event.FleetEnd.TheVariants as end
use Rattle.waiter_fleet.specs.declared.event.FleetEvent.{FleetEvent}
use Rattle.waiter_fleet.specs.declared.event.FleetEvent.TheVariants.{Poll, Sleep, Charged, Refused, End}
use Rattle.waiter_fleet.specs.declared.event.Seen.{Seen}
use Rattle.waiter_fleet.specs.declared.event.Seen.TheVariants.{Output, Service, Unmodeled}
use Rattle.waiter_fleet.specs.declared.plan.Plan.{Plan}
use Rattle.waiter_fleet.specs.Events.{ended, polls, zero_used}
use Rattle.waiter_fleet.specs.Fleet.{Behind, GoesOn, IsFleet, MayEnd, is_settled, verdict_of}
use Rattle.waiter_fleet.specs.Seats.{plan_of}
use Rattle.waiter_fleet.specs.Walks.{Accepted, FleetTurn, result_of, turned_by, turns_of, walk_of}

pub eq_true : (m n : ℕ) → (m == n) ≡ true → m ≡ n
eq_true m n is = grind (arith, nat_tests)

-- one where the waiter's poll stands last
abbrev pub open_poll : ℕ → List FleetEvent → ℕ
open_poll waiter [] = 0
open_poll waiter (Poll one number moment seen state ∷ before) = if one == waiter then 1 else 0
open_poll waiter (Sleep one nanos elapsed word ∷ before) = 0
open_poll waiter (Charged one moment ∷ before) = 0
open_poll waiter (Refused one cost moment ∷ before) = 0
open_poll waiter (End one ending ∷ before) = 0

pub settled-open : (waiter : ℕ) (events : List FleetEvent) → is_settled events ≡ true → open_poll waiter events ≡ 0
settled-open waiter [] settled = refl
settled-open waiter (Poll one number moment seen state ∷ before) settled = absurd (cc settled)
settled-open waiter (Sleep one nanos elapsed word ∷ before) settled = refl
settled-open waiter (Charged one moment ∷ before) settled = refl
settled-open waiter (Refused one cost moment ∷ before) settled = refl
settled-open waiter (End one ending ∷ before) settled = refl

-- the polls of a waiter that hasn't ended are its turns, and one that stands last
counted-poll : (test : Bool) (n turns last : ℕ) → n ≡ turns + last → last ≡ 0 →
    (if test then n + 1 else n) ≡ turns + (if test then 1 else 0)
counted-poll true n turns last is none = omega (arith, is, none)
counted-poll false n turns last is none = omega (arith, is, none)

counted-sleep : (test : Bool) (n last : ℕ) (turns more : List FleetTurn) → n ≡ length turns + last → last ≡ (if test then 1 else 0) →
    length more ≡ length turns + 1 → n ≡ length (if test then more else turns) + 0
counted-sleep true n last turns more is one grown = omega (arith, is, one, grown)
counted-sleep false n last turns more is none grown = omega (arith, is, none)

module _ (plans : List Plan) (book : Book) (start waiter : ℕ) where
  -- behind a poll of one waiter
  pub open-behind : (before : List FleetEvent) (one : ℕ) (follows : Plan → Bool → ℕ → ℕ → walk.Verdict → Type 0) →
      Behind plans book start before one follows → open_poll waiter before ≡ (if one == waiter then 1 else 0)
  open-behind before one follows behind = ap (open_poll waiter) behind.poll.is

  length-turned : (before : List FleetEvent) (one nanos word : ℕ) (turns : List FleetTurn) (follows : Plan → Bool → ℕ → ℕ → walk.Verdict → Type 0) →
      Behind plans book start before one follows → length (turned_by nanos word before turns) ≡ length turns + 1
  length-turned before one nanos word turns follows behind =
      ap (λ events. length (turned_by nanos word events turns)) behind.poll.is ∙ sym (add-one (length turns))

  pub not_open : (before : List FleetEvent) (one : ℕ) (ending : FleetEnd) → (one == waiter) ≡ false → MayEnd plans book start before one ending → open_poll waiter before ≡ 0
  not_open before one end.Ok apart may = open-behind before one _ may ∙ ap (λ test. if test then 1 else 0) apart
  not_open before one end.OperationFailed apart may = open-behind before one _ may ∙ ap (λ test. if test then 1 else 0) apart
  not_open before one end.FailureState apart may = open-behind before one _ may ∙ ap (λ test. if test then 1 else 0) apart
  not_open before one (end.ExceededMaxWait max_wait passed poll_count) apart may = open-behind before one _ may ∙ ap (λ test. if test then 1 else 0) apart
  not_open before one (end.NoQuota cost) apart may = ap (open_poll waiter) may.2
  not_open before one end.Unfinished apart may = absurd may

  pub polls-turns : (events : List FleetEvent) → IsFleet plans book start events → ended waiter events ≡ false →
      polls waiter events ≡ length (turns_of waiter events) + open_poll waiter events
  polls-turns [] fleet waits = refl
  polls-turns (Poll one number moment seen state ∷ before) fleet waits =
      counted-poll (one == waiter) _ _ _ (polls-turns before fleet.1 waits) (settled-open waiter before fleet.0.settled)
  polls-turns (Sleep one nanos elapsed word ∷ before) fleet waits =
      counted-sleep (one == waiter) _ _ _ _ (polls-turns before fleet.1 waits) (open-behind before one _ fleet.0)
      (length-turned before one nanos word (turns_of waiter before) _ fleet.0)
  polls-turns (Charged one moment ∷ before) fleet waits =
      polls-turns before fleet.1 waits ∙ ap (λ n. length (turns_of waiter before) + n) (settled-open waiter before fleet.0.settled)
  polls-turns (Refused one cost moment ∷ before) fleet waits =
      polls-turns before fleet.1 waits ∙ ap (λ n. length (turns_of waiter before) + n) (settled-open waiter before fleet.0.0.settled)
  polls-turns (End one ending ∷ before) fleet waits =
      let cases : (test : Bool) → (one == waiter) ≡ test → (if test then true else ended waiter before) ≡ false →
      polls waiter before ≡ length (turns_of waiter before) + 0 = elim [
        | true ↦ λ is over. absurd (cc over)
        | false ↦ λ is still.
            polls-turns before fleet.1 still ∙ ap (λ n. length (turns_of waiter before) + n) (not_open before one ending is fleet.0)
      ] in
      cases (one == waiter) refl waits

module _ (fault : Fault) (response : HttpResponse) where
  pub same_verdict : (seen : Seen) (state : AcceptorState) → walk.verdict (result_of fault response seen) state ≡ verdict_of seen state
  same_verdict Unmodeled state = refl
  same_verdict (Output payload) NoAcceptorsMatched = refl
  same_verdict (Output payload) Success = refl
  same_verdict (Output payload) Failure = refl
  same_verdict (Output payload) Retry = refl
  same_verdict (Service payload) NoAcceptorsMatched = refl
  same_verdict (Service payload) Success = refl
  same_verdict (Service payload) Failure = refl
  same_verdict (Service payload) Retry = refl

  pub length-walk_of : (turns : List FleetTurn) → length (walk_of fault response turns) ≡ length turns
  length-walk_of [] = refl
  length-walk_of (turn ∷ before) = let rest = length-walk_of before in omega (arith, rest)

  -- no delay of 0 was used in a walk that has none
  unused-more : (turn : FleetTurn) (before : List FleetTurn) → (turn.nanos == 0) ≡ false → walk.zero_used (walk_of fault response before) ≡ false →
      walk.zero_used (walk_of fault response (turn ∷ before)) ≡ false
  unused-more turn before some rest = rw (some, rest) refl

  unused-turned : (test used : Bool) (nanos : ℕ) (turns more : List FleetTurn) →
      (used ≡ false → walk.zero_used (walk_of fault response turns) ≡ false) →
      ((nanos == 0) ≡ false → walk.zero_used (walk_of fault response turns) ≡ false → walk.zero_used (walk_of fault response more) ≡ false) →
      (if test then used || nanos == 0 else used) ≡ false →
      walk.zero_used (walk_of fault response (if test then more else turns)) ≡ false
  unused-turned true false nanos turns more old new is = new is (old refl)
  unused-turned true true nanos turns more old new is = absurd (cc is)
  unused-turned false used nanos turns more old new is = old is

  module _ (plans : List Plan) (book : Book) (start waiter : ℕ) where
    unused-walk : (events : List FleetEvent) → IsFleet plans book start events → zero_used waiter events ≡ false →
        walk.zero_used (walk_of fault response (turns_of waiter events)) ≡ false
    unused-walk [] fleet unused = refl
    unused-walk (Poll one number moment seen state ∷ before) fleet unused = unused-walk before fleet.1 unused
    unused-walk (Charged one moment ∷ before) fleet unused = unused-walk before fleet.1 unused
    unused-walk (Refused one cost moment ∷ before) fleet unused = unused-walk before fleet.1 unused
    unused-walk (End one ending ∷ before) fleet unused = unused-walk before fleet.1 unused
    unused-walk (Sleep one nanos elapsed word ∷ before) fleet unused =
        let turns = turns_of waiter before in
        let P : List FleetEvent → Type 0 = λ events. walk.zero_used (walk_of fault response (turned_by nanos word events turns)) ≡ false in
        unused-turned (one == waiter) (zero_used waiter before) nanos turns (turned_by nanos word before turns)
        (unused-walk before fleet.1)
        (λ some rest. subst P (sym fleet.0.poll.is) (unused-more (record { moment = fleet.0.moment; seen = fleet.0.poll.seen; state = fleet.0.poll.state; word = word; nanos = nanos }) turns some rest)) unused

    module _ (backoff : Backoff) (planned : slice_get plans waiter ≡ Some (plan_of backoff))
        (says : Result (Bor Payload) (Bor Payload) → AcceptorState → Type 0) where
      -- the turn that a sleep makes of its poll
      turn-walks : (number moment nanos word : ℕ) (seen : Seen) (state : AcceptorState) (earlier : List FleetEvent) →
          IsFleet plans book start (Poll waiter number moment seen state ∷ earlier) →
          verdict_of seen state ≡ walk.goes_on → zero_used waiter earlier ≡ false → moment - start ≤ backoff.max_wait →
          IsDelay backoff.min_delay backoff.max_delay backoff.max_wait number (moment - start) word nanos →
          walk.Accepts says (result_of fault response seen) state →
          walk.IsTurn backoff says start (walk_of fault response (turns_of waiter earlier)) (record {
            poll = record { pending = 0; result = result_of fault response seen; state = state; moment = moment };
            word = word;
            delay = nanos;
            sleep = 0;
            unready = 0;
          })
      turn-walks number moment nanos word seen state earlier fleet goes unused in_time delays accepts =
          let counted = polls-turns plans book start waiter earlier fleet.1 fleet.0.turn.waits in
          let none = settled-open waiter earlier fleet.0.settled in
          let numbered = fleet.0.numbered in
          let long = length-walk_of (turns_of waiter earlier) in
          let same : number ≡ walk.number_after (walk_of fault response (turns_of waiter earlier)) = omega (arith, counted, none, numbered, long) in
          let P : ℕ → Type 0 = λ n. IsDelay backoff.min_delay backoff.max_delay backoff.max_wait n (moment - start) word nanos in
          record {
            accepts = accepts;
            goes = same_verdict seen state ∙ goes;
            no_zero = unused-walk earlier fleet.1 unused;
            in_time = in_time;
            delays = subst P same delays;
          }

      same_plan : (plan : Plan) → slice_get plans waiter ≡ Some plan → plan ≡ plan_of backoff
      same_plan plan there = cc (sym there ∙ planned)

      -- behind a sleep of the waiter
      walks-sleep : (one nanos elapsed word : ℕ) (before : List FleetEvent) →
          (behind : Behind plans book start before one (λ plan used number passed verdict. (elapsed ≡ passed) × GoesOn plan used number passed verdict word nanos)) →
          IsFleet plans book start before → one ≡ waiter →
          (Accepted fault response says (turns_of waiter before) → walk.IsWalk backoff says start (walk_of fault response (turns_of waiter before))) →
          Accepted fault response says (turned_by nanos word before (turns_of waiter before)) →
          walk.IsWalk backoff says start (walk_of fault response (turned_by nanos word before (turns_of waiter before)))
      walks-sleep one nanos elapsed word before behind fleet own =
          let poll = behind.poll in
          let earlier = poll.earlier in
          let literal : List FleetEvent = Poll one behind.number behind.moment poll.seen poll.state ∷ earlier in
          let F : List FleetEvent → Type 0 = λ events. IsFleet plans book start events in
          let G : ℕ → Type 0 = λ w. IsFleet plans book start (Poll w behind.number behind.moment poll.seen poll.state ∷ earlier) in
          let Z : ℕ → Type 0 = λ w. zero_used w before ≡ false in
          let Y : List FleetEvent → Type 0 = λ events. zero_used waiter events ≡ false in
          let unused : zero_used waiter earlier ≡ false = subst Y poll.is (subst Z own behind.so.1.no_zero) in
          let S : ℕ → Type 0 = λ w. slice_get plans w ≡ Some behind.plan in
          let is_plan = same_plan behind.plan (subst S own behind.planned) in
          let T : Plan → Type 0 = λ plan. behind.moment - start ≤ plan.max_wait in
          let D : Plan → Type 0 = λ plan. IsDelay plan.min_delay plan.max_delay plan.max_wait behind.number (behind.moment - start) word nanos in
          let Q : List FleetEvent → Type 0 = λ events.
          (Accepted fault response says (turns_of waiter events) → walk.IsWalk backoff says start (walk_of fault response (turns_of waiter events))) →
          Accepted fault response says (turned_by nanos word events (turns_of waiter events)) →
          walk.IsWalk backoff says start (walk_of fault response (turned_by nanos word events (turns_of waiter events))) in
          subst Q (sym poll.is) (λ earlier_walks yes. (
            turn-walks behind.number behind.moment nanos word poll.seen poll.state earlier (subst G own (subst F poll.is fleet))
                (sym poll.means ∙ behind.so.1.goes) unused (subst T is_plan behind.so.1.in_time) (subst D is_plan behind.so.1.delays) yes.0,
            earlier_walks yes.1,
          ))

      pub walks-fleet : (events : List FleetEvent) → IsFleet plans book start events → Accepted fault response says (turns_of waiter events) →
          walk.IsWalk backoff says start (walk_of fault response (turns_of waiter events))
      walks-fleet [] fleet accepted = tt
      walks-fleet (Poll one number moment seen state ∷ before) fleet accepted = walks-fleet before fleet.1 accepted
      walks-fleet (Charged one moment ∷ before) fleet accepted = walks-fleet before fleet.1 accepted
      walks-fleet (Refused one cost moment ∷ before) fleet accepted = walks-fleet before fleet.1 accepted
      walks-fleet (End one ending ∷ before) fleet accepted = walks-fleet before fleet.1 accepted
      walks-fleet (Sleep one nanos elapsed word ∷ before) fleet accepted =
          let turns = turns_of waiter before in
          let cases : (test : Bool) → (one == waiter) ≡ test →
          Accepted fault response says (if test then turned_by nanos word before turns else turns) →
          walk.IsWalk backoff says start (walk_of fault response (if test then turned_by nanos word before turns else turns)) = elim [
            | false ↦ λ is yes. walks-fleet before fleet.1 yes
            | true ↦ λ is. walks-sleep one nanos elapsed word before fleet.0 fleet.1 (eq_true one waiter is) (walks-fleet before fleet.1)
          ] in
          cases (one == waiter) refl accepted

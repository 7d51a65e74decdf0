-- What ends a waiter of a fleet ends a waiter's walk.
use Rattle.std.proofs.Common.{◌≡◌, ℕ, ◌-◌, ◌<◌, ◌⊎◌, inl, inr, List, [], ◌∷◌, Bool, true, false, Result, Ok, Err, Some, arith, sym, subst, refl, ◌∙◌, slice_get, if◌then◌else◌}
use Rattle.std.specs.Prelude.{◌==◌, ◌||◌}
use Rattle.std.specs.Borrow.{Bor}
use Rattle.smithy_types.specs.declared.acceptor.AcceptorState.{AcceptorState}
use Rattle.smithy_types.specs.declared.acceptor.AcceptorState.TheVariants.{NoAcceptorsMatched, Success, Failure, Retry}
use Rattle.smithy_types.specs.declared.fault.Fault.{Fault}
use Rattle.smithy_types.specs.declared.fault.SdkError.TheVariants.{ConstructionFailure, ServiceError}
use Rattle.smithy_types.specs.declared.http.HttpResponse.{HttpResponse}
use Rattle.smithy_types.specs.declared.payload.Payload.{Payload}
use Rattle.waiters.specs.declared.backoff.Backoff.{Backoff}
use Rattle.waiters.specs.declared.outcome.WaiterError.TheVariants as error
use Rattle.waiters.specs.Walk as walk
use Rattle.retry_quota.specs.Book.{Book}
use Rattle.waiter_fleet.specs.declared.event.FleetEnd.{FleetEnd}
use Rattle.waiter_fleet.specs.declared.event.FleetEnd.TheVariants as end
use Rattle.waiter_fleet.specs.declared.event.FleetEvent.{FleetEvent}
use Rattle.waiter_fleet.specs.declared.event.FleetEvent.TheVariants.{Poll, Sleep, Charged, Refused, End}
use Rattle.waiter_fleet.specs.declared.event.Seen.{Seen}
use Rattle.waiter_fleet.specs.declared.event.Seen.TheVariants.{Output, Service, Unmodeled}
use Rattle.waiter_fleet.specs.declared.plan.Plan.{Plan}
use Rattle.waiter_fleet.specs.Events.{zero_used}
use Rattle.waiter_fleet.specs.Fleet.{Behind, EndsBy, IsFleet, MayEnd, verdict_of}
use Rattle.waiter_fleet.specs.Seats.{plan_of}
use Rattle.waiter_fleet.specs.Walks.{FleetTurn, Names, result_of, turned_by, turns_of, walk_of}
use Rattle.waiter_fleet.proofs.Walkings.{length-walk_of, polls-turns, same_verdict, settled-open}

module _ (fault : Fault) (response : HttpResponse) where
  -- a delay of 0 that was used was used in the walk
  used-turned : (test used : Bool) (nanos : ℕ) (turns more : List FleetTurn) →
      (used ≡ true → walk.zero_used (walk_of fault response turns) ≡ true) →
      (walk.zero_used (walk_of fault response turns) ≡ true → walk.zero_used (walk_of fault response more) ≡ true) →
      ((nanos == 0) ≡ true → walk.zero_used (walk_of fault response more) ≡ true) →
      (if test then used || nanos == 0 else used) ≡ true →
      walk.zero_used (walk_of fault response (if test then more else turns)) ≡ true
  used-turned true true nanos turns more old grown new is = grown (old refl)
  used-turned true false nanos turns more old grown new is = new is
  used-turned false used nanos turns more old grown new is = old is

  used-now : (turn : FleetTurn) (before : List FleetTurn) → (turn.nanos == 0) ≡ true →
      walk.zero_used (walk_of fault response (turn ∷ before)) ≡ true
  used-now turn before none = rw none refl

  used-before : (turn : FleetTurn) (before : List FleetTurn) → walk.zero_used (walk_of fault response before) ≡ true →
      walk.zero_used (walk_of fault response (turn ∷ before)) ≡ true
  used-before turn before used =
      let cases : (test : Bool) → (test || walk.zero_used (walk_of fault response before)) ≡ true = elim [
        | true ↦ refl
        | false ↦ used
      ] in
      cases (turn.nanos == 0)

  module _ (plans : List Plan) (book : Book) (start waiter : ℕ) where
    used-walk : (events : List FleetEvent) → IsFleet plans book start events → zero_used waiter events ≡ true →
        walk.zero_used (walk_of fault response (turns_of waiter events)) ≡ true
    used-walk [] fleet used = absurd (cc used)
    used-walk (Poll one number moment seen state ∷ before) fleet used = used-walk before fleet.1 used
    used-walk (Charged one moment ∷ before) fleet used = used-walk before fleet.1 used
    used-walk (Refused one cost moment ∷ before) fleet used = used-walk before fleet.1 used
    used-walk (End one ending ∷ before) fleet used = used-walk before fleet.1 used
    used-walk (Sleep one nanos elapsed word ∷ before) fleet used =
        let turns = turns_of waiter before in
        let turn : FleetTurn = record { moment = fleet.0.moment; seen = fleet.0.poll.seen; state = fleet.0.poll.state; word = word; nanos = nanos } in
        let P : List FleetEvent → Type 0 = λ events. walk.zero_used (walk_of fault response (turned_by nanos word events turns)) ≡ true in
        used-turned (one == waiter) (zero_used waiter before) nanos turns (turned_by nanos word before turns)
        (used-walk before fleet.1)
        (λ rest. subst P (sym fleet.0.poll.is) (used-before turn turns rest))
        (λ none. subst P (sym fleet.0.poll.is) (used-now turn turns none)) used

    number-walk : (number moment : ℕ) (seen : Seen) (state : AcceptorState) (earlier : List FleetEvent) →
        IsFleet plans book start (Poll waiter number moment seen state ∷ earlier) →
        number ≡ walk.number_after (walk_of fault response (turns_of waiter earlier))
    number-walk number moment seen state earlier fleet =
        let counted = polls-turns plans book start waiter earlier fleet.1 fleet.0.turn.waits in
        let none = settled-open waiter earlier fleet.0.settled in
        let numbered = fleet.0.numbered in
        let long = length-walk_of fault response (turns_of waiter earlier) in
        omega (arith, counted, none, numbered, long)

    module _ (backoff : Backoff) (says : Result (Bor Payload) (Bor Payload) → AcceptorState → Type 0) where
      -- the poll that ends a waiter, as one of the walk
      abbrev last_poll : ℕ → Seen → AcceptorState → walk.Poll Payload Payload
      last_poll moment seen state = record { pending = 0; result = result_of fault response seen; state = state; moment = moment }

      -- how the walk ends with it
      abbrev WalkEnds : List FleetEvent → ℕ → Seen → AcceptorState → FleetEnd → Type 0
      WalkEnds earlier moment seen state ending =
          (last : walk.End Payload Payload) × Names ending last
          × walk.Ends backoff says start (walk_of fault response (turns_of waiter earlier)) (last_poll moment seen state) last

      ends-ok : (earlier : List FleetEvent) (moment : ℕ) (seen : Seen) (state : AcceptorState) → verdict_of seen state ≡ walk.succeeds →
          walk.Accepts says (result_of fault response seen) state → WalkEnds earlier moment seen state end.Ok
      ends-ok earlier moment (Output payload) state means accepts =
          (Ok (record { result = Ok payload }), tt, record { accepts = accepts; ends = (same_verdict fault response (Output payload) state ∙ means, refl) })
      ends-ok earlier moment (Service payload) state means accepts =
          (Ok (record { result = Err payload }), tt, record { accepts = accepts; ends = (same_verdict fault response (Service payload) state ∙ means, refl) })
      ends-ok earlier moment Unmodeled state means accepts = absurd (cc means)

      ends-failed : (earlier : List FleetEvent) (moment : ℕ) (seen : Seen) (state : AcceptorState) → verdict_of seen state ≡ walk.fails →
          walk.Accepts says (result_of fault response seen) state → WalkEnds earlier moment seen state end.OperationFailed
      ends-failed earlier moment (Output payload) NoAcceptorsMatched means accepts = absurd (cc means)
      ends-failed earlier moment (Output payload) Success means accepts = absurd (cc means)
      ends-failed earlier moment (Output payload) Failure means accepts = absurd (cc means)
      ends-failed earlier moment (Output payload) Retry means accepts = absurd (cc means)
      ends-failed earlier moment (Service payload) state means accepts = (
        Err (error.OperationFailed (ServiceError payload response)),
        tt,
        record { accepts = accepts; ends = (same_verdict fault response (Service payload) state ∙ means, refl) },
      )
      ends-failed earlier moment Unmodeled state means accepts =
          (Err (error.OperationFailed (ConstructionFailure fault)), tt, record { accepts = accepts; ends = (refl, refl) })

      ends-failure : (earlier : List FleetEvent) (moment : ℕ) (seen : Seen) (state : AcceptorState) → verdict_of seen state ≡ walk.is_failure →
          walk.Accepts says (result_of fault response seen) state → WalkEnds earlier moment seen state end.FailureState
      ends-failure earlier moment (Output payload) state means accepts = (
        Err (error.FailureState (record { result = Ok payload })),
        tt,
        record { accepts = accepts; ends = (same_verdict fault response (Output payload) state ∙ means, refl) },
      )
      ends-failure earlier moment (Service payload) state means accepts = (
        Err (error.FailureState (record { result = Err payload })),
        tt,
        record { accepts = accepts; ends = (same_verdict fault response (Service payload) state ∙ means, refl) },
      )
      ends-failure earlier moment Unmodeled state means accepts = absurd (cc means)

      ends-exceeded : (earlier : List FleetEvent) (number moment max_wait passed poll_count : ℕ) (seen : Seen) (state : AcceptorState) →
          IsFleet plans book start (Poll waiter number moment seen state ∷ earlier) →
          EndsBy (plan_of backoff) (zero_used waiter earlier) number (moment - start) (verdict_of seen state) (end.ExceededMaxWait max_wait passed poll_count) →
          walk.Accepts says (result_of fault response seen) state → WalkEnds earlier moment seen state (end.ExceededMaxWait max_wait passed poll_count)
      ends-exceeded earlier number moment max_wait passed poll_count seen state fleet so accepts =
          let why : (walk.zero_used (walk_of fault response (turns_of waiter earlier)) ≡ true) ⊎ (backoff.max_wait < moment - start) = elim so.1 [
            | inl used ↦ inl (used-walk earlier fleet.1 used)
            | inr late ↦ inr late
          ] in (
            Err (error.ExceededMaxWait max_wait passed poll_count),
            (refl, refl, refl),
            record {
              accepts = accepts;
              ends = (same_verdict fault response seen state ∙ so.0, why, so.2, so.3, so.4 ∙ number-walk number moment seen state earlier fleet);
            },
          )

      ends-by : (earlier : List FleetEvent) (number moment : ℕ) (seen : Seen) (state : AcceptorState) (ending : FleetEnd) →
          IsFleet plans book start (Poll waiter number moment seen state ∷ earlier) →
          EndsBy (plan_of backoff) (zero_used waiter earlier) number (moment - start) (verdict_of seen state) ending →
          walk.Accepts says (result_of fault response seen) state → WalkEnds earlier moment seen state ending
      ends-by earlier number moment seen state end.Ok fleet so accepts = ends-ok earlier moment seen state so accepts
      ends-by earlier number moment seen state end.OperationFailed fleet so accepts = ends-failed earlier moment seen state so accepts
      ends-by earlier number moment seen state end.FailureState fleet so accepts = ends-failure earlier moment seen state so accepts
      ends-by earlier number moment seen state (end.ExceededMaxWait max_wait passed poll_count) fleet so accepts =
          ends-exceeded earlier number moment max_wait passed poll_count seen state fleet so accepts
      ends-by earlier number moment seen state (end.NoQuota cost) fleet so accepts = absurd so
      ends-by earlier number moment seen state end.Unfinished fleet so accepts = absurd so

      -- what follows of the poll that stands last
      read_behind : (earlier : List FleetEvent) (number moment : ℕ) (seen : Seen) (state : AcceptorState)
          (follows : Plan → Bool → ℕ → ℕ → walk.Verdict → Type 0) → slice_get plans waiter ≡ Some (plan_of backoff) →
          Behind plans book start (Poll waiter number moment seen state ∷ earlier) waiter follows →
          follows (plan_of backoff) (zero_used waiter earlier) number (moment - start) (verdict_of seen state)
      read_behind earlier number moment seen state follows planned behind =
          let is = behind.poll.is in
          let means = behind.poll.means in
          let there = behind.planned in
          let same_plan : behind.plan ≡ plan_of backoff = cc (sym there ∙ planned) in
          let same_number : behind.number ≡ number = cc in
          let same_moment : behind.moment ≡ moment = cc in
          let same_meaning : behind.verdict ≡ verdict_of seen state = cc in
          let used = zero_used waiter earlier in
          let A : Plan → Type 0 = λ plan. follows plan used behind.number (behind.moment - start) behind.verdict in
          let B : ℕ → Type 0 = λ n. follows (plan_of backoff) used n (behind.moment - start) behind.verdict in
          let C : ℕ → Type 0 = λ n. follows (plan_of backoff) used number (n - start) behind.verdict in
          let D : walk.Verdict → Type 0 = λ v. follows (plan_of backoff) used number (moment - start) v in
          subst D same_meaning (subst C same_moment (subst B same_number (subst A same_plan behind.so)))

      ends_by-may : (earlier : List FleetEvent) (number moment : ℕ) (seen : Seen) (state : AcceptorState) (ending : FleetEnd) →
          slice_get plans waiter ≡ Some (plan_of backoff) → MayEnd plans book start (Poll waiter number moment seen state ∷ earlier) waiter ending →
          EndsBy (plan_of backoff) (zero_used waiter earlier) number (moment - start) (verdict_of seen state) ending
      ends_by-may earlier number moment seen state end.Ok planned may = read_behind earlier number moment seen state _ planned may
      ends_by-may earlier number moment seen state end.OperationFailed planned may = read_behind earlier number moment seen state _ planned may
      ends_by-may earlier number moment seen state end.FailureState planned may = read_behind earlier number moment seen state _ planned may
      ends_by-may earlier number moment seen state (end.ExceededMaxWait max_wait passed poll_count) planned may =
          read_behind earlier number moment seen state _ planned may
      ends_by-may earlier number moment seen state (end.NoQuota cost) planned may = let clash = may.2 in absurd (cc clash)
      ends_by-may earlier number moment seen state end.Unfinished planned may = may

      pub ends-walk : (earlier : List FleetEvent) (number moment : ℕ) (seen : Seen) (state : AcceptorState) (ending : FleetEnd) →
          IsFleet plans book start (End waiter ending ∷ Poll waiter number moment seen state ∷ earlier) →
          slice_get plans waiter ≡ Some (plan_of backoff) → walk.Accepts says (result_of fault response seen) state →
          WalkEnds earlier moment seen state ending
      ends-walk earlier number moment seen state ending fleet planned accepts =
          ends-by earlier number moment seen state ending fleet.1 (ends_by-may earlier number moment seen state ending planned fleet.0) accepts

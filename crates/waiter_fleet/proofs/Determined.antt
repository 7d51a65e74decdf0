-- A fleet's run is determined by where it begins.
use Rattle.std.proofs.Common.{◌≡◌, ℕ, ◌+◌, ◌-◌, ◌/◌, ◌≤◌, ◌<◌, ◌⊎◌, inl, inr, Bool, true, false, List, [], ◌∷◌, ◌++◌, Option, None, Some, Ok, zero, suc, arith, ap, sym, subst, refl, ◌∙◌, length, if◌then◌else◌, append_assoc}
use Rattle.std.specs.Prelude.{◌==◌}
use Rattle.std.proofs.lemmas.List.{append-nil}
use Rattle.smithy_types.specs.Chain.{Chained}
use Rattle.smithy_types.specs.declared.acceptor.AcceptorState.{AcceptorState}
use Rattle.smithy_types.specs.declared.kinds.ErrorKind.TheVariants.{ServerError}
use Rattle.smithy_types.specs.declared.timers.TimersCall.TheVariants.{Now, Ready, Start}
use Rattle.waiters.specs.Delay.{IsDelay, cut_delay, drawn_delay, most_seconds, second}
use Rattle.waiters.specs.Walk.{Verdict, fails, succeeds, is_failure, goes_on}
use Rattle.retry_quota.specs.Book.{Book}
use Rattle.retry_quota.specs.History.{is_granted}
use Rattle.waiter_fleet.specs.declared.event.FleetEnd.{FleetEnd}
use Rattle.waiter_fleet.specs.declared.event.FleetEnd.TheVariants as end
use Rattle.waiter_fleet.specs.declared.event.FleetEvent.{FleetEvent}
use Rattle.waiter_fleet.specs.declared.event.FleetEvent.TheVariants.{Poll, Sleep, Charged, Refused, End}
use Rattle.waiter_fleet.specs.declared.event.Seen.{Seen}
use Rattle.waiter_fleet.specs.declared.plan.Plan.{Plan}
use Rattle.waiter_fleet.specs.Acts.{Act, AreFunded, calls_of, calls_with, events_of, is_ask, open_sleep, sleep_behind}
use Rattle.waiter_fleet.specs.Calls.{FleetCall, asks, awaited, drew, polled, timed, unanswered, unready}
use Rattle.waiter_fleet.specs.Events.{book_after, charges, ended, in_order, polls, waiter_of, zero_used}
use Rattle.waiter_fleet.specs.Fleet.{Behind, EndsBy, Follows, GoesOn, IsTurnOf, IsFleet, MayAsk, MayEnd, MayPoll, is_settled, left_over, number_behind}
use Rattle.waiter_fleet.specs.Laws.{IsSteady, RunsAreDetermined}
use Rattle.waiter_fleet.specs.Steps.{Origin, Rest, unpolled, asleep, awoken}
use Rattle.waiter_fleet.specs.Waiting.{WaitsAll}
use Rattle.waiter_fleet.proofs.Notings.{chained-split}
use Rattle.waiter_fleet.proofs.Standing.{asks-append}
use Rattle.waiter_fleet.proofs.Steady.{no_answer, no_sleep, same_asks, same_polls}

-- one waiter has the turn
same_turn : (count start : ℕ) (before : List FleetEvent) (one other : ℕ) → IsTurnOf count start before one → IsTurnOf count start before other → one ≡ other
same_turn count start before one other turn too =
    elim (turn.first other too.within too.waits) [
      | inl less ↦ elim (too.first one turn.within turn.waits) [
        | inl more ↦ absurd (omega (arith, less, more))
        | inr same ↦ let at = same.0 in absurd (omega (arith, less, at))
      ]
      | inr same ↦ elim (too.first one turn.within turn.waits) [
        | inl more ↦ let at = same.0 in absurd (omega (arith, more, at))
        | inr back ↦ let up = same.1 in let down = back.1 in omega (arith, up, down)
      ]
    ]

-- a delay follows from its word
same_delay : (min max most attempt elapsed word one other : ℕ) → IsDelay min max most attempt elapsed word one → IsDelay min max most attempt elapsed word other → one ≡ other
same_delay min max most attempt elapsed word one other first second =
    let up = second.is_ceiling.greatest first.ceiling first.is_ceiling.within in
    let down = first.is_ceiling.greatest second.ceiling second.is_ceiling.within in
    let same : first.ceiling ≡ second.ceiling = omega (arith, up, down) in
    first.value ∙ (ap (λ c. cut_delay min (most - elapsed) (drawn_delay min (most_seconds min max c attempt) word)) same ∙ sym second.value)

-- whether an event needs nothing to follow what is before it
abbrev begins : FleetEvent → Bool
begins (Poll waiter number moment seen state) = true
begins (Sleep waiter nanos elapsed word) = false
begins (Charged waiter moment) = true
begins (Refused waiter cost moment) = true
begins (End waiter ending) = false

-- the waiter whose poll stands last, with that poll
abbrev last_poll : List FleetEvent → Option (ℕ × ℕ × ℕ × Seen × AcceptorState)
last_poll [] = None
last_poll (Poll waiter number moment seen state ∷ before) = Some (waiter, number, moment, seen, state)
last_poll (Sleep waiter nanos elapsed word ∷ before) = None
last_poll (Charged waiter moment ∷ before) = None
last_poll (Refused waiter cost moment ∷ before) = None
last_poll (End waiter ending ∷ before) = None

-- the waiter that was refused last, and at what cost
abbrev last_refused : List FleetEvent → Option (ℕ × ℕ)
last_refused [] = None
last_refused (Poll waiter number moment seen state ∷ before) = None
last_refused (Sleep waiter nanos elapsed word ∷ before) = None
last_refused (Charged waiter moment ∷ before) = None
last_refused (Refused waiter cost moment ∷ before) = Some (waiter, cost)
last_refused (End waiter ending ∷ before) = None

-- how a verdict ends a waiter, where it does by itself
abbrev ended_so : Verdict → FleetEnd → FleetEnd
ended_so succeeds late = end.Ok
ended_so fails late = end.OperationFailed
ended_so is_failure late = end.FailureState
ended_so goes_on late = late

ends-one : (plan : Plan) (used : Bool) (number elapsed : ℕ) (verdict : Verdict) (ending : FleetEnd) → EndsBy plan used number elapsed verdict ending →
    ending ≡ ended_so verdict (end.ExceededMaxWait plan.max_wait elapsed number)
ends-one plan used number elapsed verdict end.Ok is = ap (λ v. ended_so v (end.ExceededMaxWait plan.max_wait elapsed number)) (sym is)
ends-one plan used number elapsed verdict end.OperationFailed is = ap (λ v. ended_so v (end.ExceededMaxWait plan.max_wait elapsed number)) (sym is)
ends-one plan used number elapsed verdict end.FailureState is = ap (λ v. ended_so v (end.ExceededMaxWait plan.max_wait elapsed number)) (sym is)
ends-one plan used number elapsed verdict (end.ExceededMaxWait most passed count) is =
    let late = ap (λ v. ended_so v (end.ExceededMaxWait plan.max_wait elapsed number)) is.0 in
    let one = is.2 in
    let two = is.3 in
    let three = is.4 in
    cc (late, one, two, three)
ends-one plan used number elapsed verdict (end.NoQuota cost) is = absurd is
ends-one plan used number elapsed verdict end.Unfinished is = absurd is

-- a poll that goes on doesn't end its waiter
goes-ends : (plan : Plan) (used : Bool) (number elapsed : ℕ) (verdict : Verdict) (word nanos : ℕ) (ending : FleetEnd) →
    GoesOn plan used number elapsed verdict word nanos → EndsBy plan used number elapsed verdict ending → ⊥
goes-ends plan used number elapsed verdict word nanos end.Ok goes is = let on = goes.goes in cc (on, is)
goes-ends plan used number elapsed verdict word nanos end.OperationFailed goes is = let on = goes.goes in cc (on, is)
goes-ends plan used number elapsed verdict word nanos end.FailureState goes is = let on = goes.goes in cc (on, is)
goes-ends plan used number elapsed verdict word nanos (end.ExceededMaxWait most passed count) goes is =
    elim is.1 [
      | inl was ↦ let none = goes.no_zero in cc (was, none)
      | inr late ↦ let within = goes.in_time in omega (arith, late, within)
    ]
goes-ends plan used number elapsed verdict word nanos (end.NoQuota cost) goes is = is
goes-ends plan used number elapsed verdict word nanos end.Unfinished goes is = is

module _ {T : Type 0} (does : T → FleetCall → T → Type 0) (steady : IsSteady does) (o : Origin T) (start : ℕ) where
  -- an act behind others takes the world on
  record Goes (before : List Act) (old : T) (act : Act) (new : T) : Type 0 where
    follows : Follows o.plans o.book start (events_of before) act.event
    made : Chained does old (calls_with act.event act.times act.sleep (open_sleep (waiter_of act.event) before)) new
    within : asks (calls_of (act ∷ before)) ≤ o.fuel
    funded : is_ask act.event ≡ true → asks (calls_of (act ∷ before)) < o.fuel

  -- the fleet has no more turns
  record Stops (acts : List Act) (old : T) : Type 0 where
    settled : is_settled (events_of acts) ≡ true
    rest : List FleetCall
    is_rest : (rest ≡ []) ⊎ Rest does o start acts rest
    new : T
    made : Chained does old rest new
    all_spent : (waiter : ℕ) → waiter < length o.plans → ended waiter (events_of acts) ≡ false → asks (calls_of acts ++ rest) ≡ o.fuel

  -- the acts that follow, the first of them first
  abbrev Path : List Act → T → List Act → Type 0
  Path before old [] = Stops before old
  Path before old (act ∷ acts) = (new : T) × Goes before old act new × Path (act ∷ before) new acts

  -- two lists of acts with the same events, calls and open sleeps
  record Same (acts others : List Act) : Type 0 where
    events : events_of acts ≡ events_of others
    calls : calls_of acts ≡ calls_of others
    sleeps : (waiter : ℕ) → open_sleep waiter acts ≡ open_sleep waiter others

  -- two acts behind the same others, with the same event and calls
  record Equal (before : List Act) (act other : Act) (new last : T) : Type 0 where
    event : act.event ≡ other.event
    calls : calls_with act.event act.times act.sleep (open_sleep (waiter_of act.event) before) ≡
        calls_with other.event other.times other.sleep (open_sleep (waiter_of other.event) before)
    sleeps : (waiter : ℕ) (open_before : Option ℕ) → sleep_behind waiter act.event act.sleep open_before ≡ sleep_behind waiter other.event other.sleep open_before
    world : new ≡ last

  behind-settled : (before : List FleetEvent) (waiter : ℕ) (follows : Plan → Bool → ℕ → ℕ → Verdict → Type 0) →
      Behind o.plans o.book start before waiter follows → is_settled before ≡ false
  behind-settled before waiter follows behind = ap is_settled behind.poll.is

  begins-settled : (before : List FleetEvent) (event : FleetEvent) → Follows o.plans o.book start before event → is_settled before ≡ begins event
  begins-settled before (Poll waiter number moment seen state) follows = follows.settled
  begins-settled before (Charged waiter moment) follows = follows.settled
  begins-settled before (Refused waiter cost moment) follows = follows.0.settled
  begins-settled before (Sleep waiter nanos elapsed word) follows = behind-settled before waiter _ follows
  begins-settled before (End waiter end.Ok) follows = behind-settled before waiter _ follows
  begins-settled before (End waiter end.OperationFailed) follows = behind-settled before waiter _ follows
  begins-settled before (End waiter end.FailureState) follows = behind-settled before waiter _ follows
  begins-settled before (End waiter (end.ExceededMaxWait most passed count)) follows = behind-settled before waiter _ follows
  begins-settled before (End waiter (end.NoQuota cost)) follows = ap is_settled follows.2
  begins-settled before (End waiter end.Unfinished) follows = absurd follows

  mixed : (before : List FleetEvent) (event other : FleetEvent) → Follows o.plans o.book start before event → Follows o.plans o.book start before other →
      begins event ≡ true → begins other ≡ false → ⊥
  mixed before event other first second opens rests =
      let up = begins-settled before event first in
      let down = begins-settled before other second in
      cc (up, down, opens, rests)

  -- what is said of the poll that stands last, said of one that is known
  record Alike {waiter : ℕ} {before : List FleetEvent} {follows : Plan → Bool → ℕ → ℕ → Verdict → Type 0} (other : ℕ)
      (behind : Behind o.plans o.book start before waiter follows) (says : Plan → Bool → ℕ → ℕ → Verdict → Type 0) : Type 0 where
    waiter_is : waiter ≡ other
    so : says behind.plan (zero_used waiter before) behind.number (behind.moment - start) behind.verdict

  same-behind : (before : List FleetEvent) (waiter other : ℕ) (follows says : Plan → Bool → ℕ → ℕ → Verdict → Type 0)
      (behind : Behind o.plans o.book start before waiter follows) → Behind o.plans o.book start before other says →
      Alike other behind says
  same-behind before waiter other follows says one two =
      let both = sym one.poll.is ∙ two.poll.is in
      let w : waiter ≡ other = cc both in
      let n : one.number ≡ two.number = cc both in
      let m : one.moment ≡ two.moment = cc both in
      let planned = one.planned in
      let planned_too = two.planned in
      let p : one.plan ≡ two.plan = cc (planned, planned_too, w) in
      let means = one.poll.means in
      let means_too = two.poll.means in
      let v : one.verdict ≡ two.verdict = cc (both, means, means_too) in
      record {
        waiter_is = w;
        so = subst (λ x. says x (zero_used waiter before) one.number (one.moment - start) one.verdict) (sym p)
            (subst (λ x. says two.plan (zero_used x before) one.number (one.moment - start) one.verdict) (sym w)
            (subst (λ x. says two.plan (zero_used other before) x (one.moment - start) one.verdict) (sym n)
            (subst (λ x. says two.plan (zero_used other before) two.number (x - start) one.verdict) (sym m)
            (subst (λ x. says two.plan (zero_used other before) two.number (two.moment - start) x) (sym v) two.so))));
      }

  -- what stands before the end of a waiter
  record IsQuota (before : List FleetEvent) (waiter : ℕ) (ending : FleetEnd) : Type 0 where
    cost : ℕ
    moment : ℕ
    earlier : List FleetEvent
    ends : ending ≡ end.NoQuota cost
    is : before ≡ Refused waiter cost moment ∷ earlier

  may-end : (before : List FleetEvent) (waiter : ℕ) (ending : FleetEnd) → MayEnd o.plans o.book start before waiter ending →
      Behind o.plans o.book start before waiter (λ plan used number elapsed verdict. EndsBy plan used number elapsed verdict ending) ⊎ IsQuota before waiter ending
  may-end before waiter end.Ok may = inl may
  may-end before waiter end.OperationFailed may = inl may
  may-end before waiter end.FailureState may = inl may
  may-end before waiter (end.ExceededMaxWait most passed count) may = inl may
  may-end before waiter (end.NoQuota cost) may = inr (record { cost = cost; moment = may.1; earlier = may.0; ends = refl; is = may.2 })
  may-end before waiter end.Unfinished may = absurd may

  record SameEnd (waiter other : ℕ) (ending too : FleetEnd) : Type 0 where
    waiter_is : waiter ≡ other
    end_is : ending ≡ too

  same-end : (before : List FleetEvent) (waiter other : ℕ) (ending too : FleetEnd) →
      MayEnd o.plans o.book start before waiter ending → MayEnd o.plans o.book start before other too → SameEnd waiter other ending too
  same-end before waiter other ending too first second =
      elim (may-end before waiter ending first) [
        | inl behind ↦ elim (may-end before other too second) [
          | inl also ↦
              let alike = same-behind before waiter other _ _ behind also in
              let one = ends-one behind.plan (zero_used waiter before) behind.number (behind.moment - start) behind.verdict ending behind.so in
              let two = ends-one behind.plan (zero_used waiter before) behind.number (behind.moment - start) behind.verdict too alike.so in
              record { waiter_is = alike.waiter_is; end_is = one ∙ sym two }
          | inr quota ↦ let clash = sym behind.poll.is ∙ quota.is in absurd (cc clash)
        ]
        | inr quota ↦ elim (may-end before other too second) [
          | inl also ↦ let clash = sym quota.is ∙ also.poll.is in absurd (cc clash)
          | inr again ↦
              let both = sym quota.is ∙ again.is in
              let one = quota.ends in
              let two = again.ends in
              record { waiter_is = cc both; end_is = cc (both, one, two) }
        ]
      ]

  -- the start of a sleep
  record SameStart (nanos : ℕ) (none : Bool) (sleep other : ℕ) (new last : T) : Type 0 where
    calls : (if none then [] else timed (Start nanos (Ok (Some sleep))) ∷ []) ≡ (if none then [] else timed (Start nanos (Ok (Some other))) ∷ [])
    sleeps : (if none then None else Some sleep) ≡ (if none then None else Some other)
    world : new ≡ last

  same-start : (nanos : ℕ) (none : Bool) (sleep other : ℕ) (old new last : T) →
      Chained does old (if none then [] else timed (Start nanos (Ok (Some sleep))) ∷ []) new →
      Chained does old (if none then [] else timed (Start nanos (Ok (Some other))) ∷ []) last → SameStart nanos none sleep other new last
  same-start nanos true sleep other old new last made too = record { calls = refl; sleeps = refl; world = made ∙ sym too }
  same-start nanos false sleep other old new last (a, p, e) (b, q, h) =
      let is = steady.starts old a b nanos (Some sleep) (Some other) p q in
      let moved = steady.moves old a b (timed (Start nanos (Ok (Some sleep)))) p (subst (λ s. does old (timed (Start nanos (Ok s))) b) (sym is) q) in
      record { calls = ap (λ s. timed (Start nanos (Ok s)) ∷ []) is; sleeps = is; world = e ∙ (moved ∙ sym h) }

  -- the act of an event
  abbrev act_of : FleetEvent → ℕ → ℕ → Act
  act_of event times sleep = record { event = event; times = times; sleep = sleep }

  same-poll : (before : List Act) (old new last : T) (w v n k i j : ℕ) (seen too : Seen) (state also : AcceptorState) (a b p q : ℕ) →
      Goes before old (act_of (Poll w n i seen state) a p) new → Goes before old (act_of (Poll v k j too also) b q) last →
      Equal before (act_of (Poll w n i seen state) a p) (act_of (Poll v k j too also) b q) new last
  same-poll before old new last w v n k i j seen too state also a b p q one two =
      let tw : w ≡ v = same_turn (length o.plans) start (events_of before) w v one.follows.turn two.follows.turn in
      let tn : n ≡ k = one.follows.numbered ∙ (ap (λ x. number_behind (polls x (events_of before))) tw ∙ sym two.follows.numbered) in
      let made = subst (λ x. Chained does old (unanswered x b ++ (polled x (Ok (Some (too, also))) ∷ timed (Now j) ∷ [])) last) (sym tw) two.made in
      let asked = same_polls does steady w a b (seen, state) (too, also) i j old old new last refl one.made made in
      let times = asked.times in
      let found = asked.found in
      let moment = asked.moment in
      let ts : seen ≡ too = ap (λ x. x.0) found in
      let ta : state ≡ also = ap (λ x. x.1) found in
      record {
        event = cc (tw, tn, moment, ts, ta);
        calls = cc (tw, times, moment, found);
        sleeps = λ x before. refl;
        world = asked.world;
      }

  -- the waiter and the moment of two asks of the bucket, and where they lead
  record SameAsk (before : List Act) (w v i j a b : ℕ) (new last : T) : Type 0 where
    waiter_is : w ≡ v
    moment : i ≡ j
    calls : awaited (open_sleep w before) a ++ timed (Now i) ∷ [] ≡ awaited (open_sleep v before) b ++ timed (Now j) ∷ []
    world : new ≡ last

  same-ask : (before : List Act) (old new last : T) (w v i j a b : ℕ) (granted refused : Bool) →
      MayAsk o.plans o.book start (events_of before) w i granted → MayAsk o.plans o.book start (events_of before) v j refused →
      Chained does old (awaited (open_sleep w before) a ++ timed (Now i) ∷ []) new →
      Chained does old (awaited (open_sleep v before) b ++ timed (Now j) ∷ []) last → SameAsk before w v i j a b new last
  same-ask before old new last w v i j a b granted refused one two made too =
      let tw : w ≡ v = same_turn (length o.plans) start (events_of before) w v one.turn two.turn in
      let again = subst (λ x. Chained does old (awaited (open_sleep x before) b ++ timed (Now j) ∷ []) last) (sym tw) too in
      let asked = same_asks does steady (open_sleep w before) a b i j old new last made again in
      let found = asked.found in
      let moment = asked.moment in
      record { waiter_is = tw; moment = moment; calls = cc (tw, found, moment); world = asked.world }

  -- one ask isn't granted and refused
  same-answer : (before : List Act) (old new last : T) (w v i j a b : ℕ) (granted refused : Bool) →
      MayAsk o.plans o.book start (events_of before) w i granted → MayAsk o.plans o.book start (events_of before) v j refused →
      Chained does old (awaited (open_sleep w before) a ++ timed (Now i) ∷ []) new →
      Chained does old (awaited (open_sleep v before) b ++ timed (Now j) ∷ []) last → granted ≡ refused
  same-answer before old new last w v i j a b granted refused one two made too =
      let ask = same-ask before old new last w v i j a b granted refused one two made too in
      sym one.answer ∙ (ap (λ x. is_granted ServerError (x / second) (book_after o.book (events_of before))) ask.moment ∙ two.answer)

  -- a poll that is paid for isn't asked for
  not-paid : (before : List Act) (w v number i : ℕ) (granted : Bool) →
      MayPoll o.plans o.book start (events_of before) w number → MayAsk o.plans o.book start (events_of before) v i granted → ⊥
  not-paid before w v number i granted poll ask =
      let tw : w ≡ v = same_turn (length o.plans) start (events_of before) w v poll.turn ask.turn in
      let paid = subst (λ x. charges x (events_of before) ≡ polls x (events_of before)) tw poll.paid in
      let unpaid = ask.unpaid in
      omega (arith, paid, unpaid)

  same-sleep : (before : List Act) (old new last : T) (w v n k e f x y : ℕ) (a b p q : ℕ) →
      Goes before old (act_of (Sleep w n e x) a p) new → Goes before old (act_of (Sleep v k f y) b q) last →
      Equal before (act_of (Sleep w n e x) a p) (act_of (Sleep v k f y) b q) new last
  same-sleep before old new last w v n k e f x y a b p q one two =
      let alike = same-behind (events_of before) w v _ _ one.follows two.follows in
      let so = one.follows.so in
      let too = alike.so in
      let plan = one.follows.plan in
      let tw = alike.waiter_is in
      let te : e ≡ f = so.0 ∙ sym too.0 in
      let word : x ≡ y = steady.draws old one.made.0 two.made.0 x y one.made.1 two.made.1 in
      let mid = steady.moves old one.made.0 two.made.0 (drew x) one.made.1 (subst (λ z. does old (drew z) two.made.0) (sym word) two.made.1) in
      let tn : n ≡ k = same_delay plan.min_delay plan.max_delay plan.max_wait one.follows.number (one.follows.moment - start) x n k so.1.delays
      (subst (λ z. IsDelay plan.min_delay plan.max_delay plan.max_wait one.follows.number (one.follows.moment - start) z k) (sym word) too.1.delays) in
      let begun = subst (λ z. Chained does one.made.0 (if z == 0 then [] else timed (Start z (Ok (Some q))) ∷ []) last) (sym tn)
      (subst (λ z. Chained does z (if k == 0 then [] else timed (Start k (Ok (Some q))) ∷ []) last) (sym mid) two.made.2) in
      let slept = same-start n (n == 0) p q one.made.0 new last one.made.2 begun in
      let calls = slept.calls in
      let sleeps = slept.sleeps in
      record {
        event = cc (tw, tn, te, word);
        calls = cc (calls, tn, word);
        sleeps = λ z earlier. cc (tw, tn, sleeps);
        world = slept.world;
      }

  no-sleep-end : (before : List FleetEvent) (w v n e x : ℕ) (ending : FleetEnd) →
      Follows o.plans o.book start before (Sleep w n e x) → Follows o.plans o.book start before (End v ending) → ⊥
  no-sleep-end before w v n e x ending sleeps ends =
      elim (may-end before v ending ends) [
        | inl behind ↦
            let alike = same-behind before w v _ _ sleeps behind in
            goes-ends sleeps.plan (zero_used w before) sleeps.number (sleeps.moment - start) sleeps.verdict x n ending sleeps.so.1 alike.so
        | inr quota ↦ let clash = sym sleeps.poll.is ∙ quota.is in cc clash
      ]

  step : (before : List Act) (old new last : T) (event other : FleetEvent) (a b p q : ℕ) →
      Goes before old (act_of event a p) new → Goes before old (act_of other b q) last →
      Equal before (act_of event a p) (act_of other b q) new last
  step before old new last (Poll w n i seen state) (Poll v k j too also) a b p q one two =
      same-poll before old new last w v n k i j seen too state also a b p q one two
  step before old new last (Poll w n i seen state) (Charged v j) a b p q one two =
      absurd (not-paid before w v n j true one.follows two.follows)
  step before old new last (Poll w n i seen state) (Refused v c j) a b p q one two =
      absurd (not-paid before w v n j false one.follows two.follows.0)
  step before old new last (Poll w n i seen state) (Sleep v k f y) a b p q one two =
      absurd (mixed (events_of before) (Poll w n i seen state) (Sleep v k f y) one.follows two.follows refl refl)
  step before old new last (Poll w n i seen state) (End v ending) a b p q one two =
      absurd (mixed (events_of before) (Poll w n i seen state) (End v ending) one.follows two.follows refl refl)
  step before old new last (Charged w i) (Poll v k j too also) a b p q one two =
      absurd (not-paid before v w k i true two.follows one.follows)
  step before old new last (Charged w i) (Charged v j) a b p q one two =
      let ask = same-ask before old new last w v i j a b true true one.follows two.follows one.made two.made in
      let tw = ask.waiter_is in
      let moment = ask.moment in
      record { event = cc (tw, moment); calls = ask.calls; sleeps = λ x earlier. refl; world = ask.world }
  step before old new last (Charged w i) (Refused v c j) a b p q one two =
      let clash = same-answer before old new last w v i j a b true false one.follows two.follows.0 one.made two.made in absurd (cc clash)
  step before old new last (Charged w i) (Sleep v k f y) a b p q one two =
      absurd (mixed (events_of before) (Charged w i) (Sleep v k f y) one.follows two.follows refl refl)
  step before old new last (Charged w i) (End v ending) a b p q one two =
      absurd (mixed (events_of before) (Charged w i) (End v ending) one.follows two.follows refl refl)
  step before old new last (Refused w c i) (Poll v k j too also) a b p q one two =
      absurd (not-paid before v w k i false two.follows one.follows.0)
  step before old new last (Refused w c i) (Charged v j) a b p q one two =
      let clash = same-answer before old new last w v i j a b false true one.follows.0 two.follows one.made two.made in absurd (cc clash)
  step before old new last (Refused w c i) (Refused v d j) a b p q one two =
      let ask = same-ask before old new last w v i j a b false false one.follows.0 two.follows.0 one.made two.made in
      let tw = ask.waiter_is in
      let moment = ask.moment in
      let cost = one.follows.1 ∙ sym two.follows.1 in
      record { event = cc (tw, moment, cost); calls = ask.calls; sleeps = λ x earlier. refl; world = ask.world }
  step before old new last (Refused w c i) (Sleep v k f y) a b p q one two =
      absurd (mixed (events_of before) (Refused w c i) (Sleep v k f y) one.follows two.follows refl refl)
  step before old new last (Refused w c i) (End v ending) a b p q one two =
      absurd (mixed (events_of before) (Refused w c i) (End v ending) one.follows two.follows refl refl)
  step before old new last (Sleep w n e x) (Poll v k j too also) a b p q one two =
      absurd (mixed (events_of before) (Poll v k j too also) (Sleep w n e x) two.follows one.follows refl refl)
  step before old new last (Sleep w n e x) (Charged v j) a b p q one two =
      absurd (mixed (events_of before) (Charged v j) (Sleep w n e x) two.follows one.follows refl refl)
  step before old new last (Sleep w n e x) (Refused v c j) a b p q one two =
      absurd (mixed (events_of before) (Refused v c j) (Sleep w n e x) two.follows one.follows refl refl)
  step before old new last (Sleep w n e x) (Sleep v k f y) a b p q one two =
      same-sleep before old new last w v n k e f x y a b p q one two
  step before old new last (Sleep w n e x) (End v ending) a b p q one two =
      absurd (no-sleep-end (events_of before) w v n e x ending one.follows two.follows)
  step before old new last (End w ending) (Poll v k j too also) a b p q one two =
      absurd (mixed (events_of before) (Poll v k j too also) (End w ending) two.follows one.follows refl refl)
  step before old new last (End w ending) (Charged v j) a b p q one two =
      absurd (mixed (events_of before) (Charged v j) (End w ending) two.follows one.follows refl refl)
  step before old new last (End w ending) (Refused v c j) a b p q one two =
      absurd (mixed (events_of before) (Refused v c j) (End w ending) two.follows one.follows refl refl)
  step before old new last (End w ending) (Sleep v k f y) a b p q one two =
      absurd (no-sleep-end (events_of before) v w k f y ending two.follows one.follows)
  step before old new last (End w ending) (End v too) a b p q one two =
      let same = same-end (events_of before) w v ending too one.follows two.follows in
      let tw = same.waiter_is in
      let te = same.end_is in
      record { event = cc (tw, te); calls = refl; sleeps = λ x earlier. refl; world = one.made ∙ sym two.made }

  carried : (acts others : List Act) (old : T) (act : Act) (new : T) → Same acts others → Goes others old act new → Goes acts old act new
  carried acts others old act new same goes =
      let calls = same.calls in
      let sleep = same.sleeps (waiter_of act.event) in
      let all : calls_of (act ∷ acts) ≡ calls_of (act ∷ others) = cc (calls, sleep) in
      record {
        follows = subst (λ events. Follows o.plans o.book start events act.event) (sym same.events) goes.follows;
        made = subst (λ s. Chained does old (calls_with act.event act.times act.sleep s) new) (sym sleep) goes.made;
        within = subst (λ l. asks l ≤ o.fuel) (sym all) goes.within;
        funded = λ ask. subst (λ l. asks l < o.fuel) (sym all) (goes.funded ask);
      }

  grown : (acts others : List Act) (act other : Act) (new last : T) → Same acts others → Equal acts act other new last → Same (act ∷ acts) (other ∷ others)
  grown acts others act other new last same equal =
      let events = same.events in
      let event = equal.event in
      let calls = same.calls in
      let own = equal.calls in
      let sleep = same.sleeps (waiter_of other.event) in
      record {
        events = cc (events, event);
        calls = cc (calls, own, sleep);
        sleeps = λ waiter. equal.sleeps waiter (open_sleep waiter acts) ∙ ap (sleep_behind waiter other.event other.sleep) (same.sleeps waiter);
      }

  turned : (acts others : List Act) → Same acts others → Same others acts
  turned acts others same = record { events = sym same.events; calls = sym same.calls; sleeps = λ waiter. sym (same.sleeps waiter) }

  asks-unanswered : (waiter times : ℕ) (later : List FleetCall) → asks (unanswered waiter times ++ later) ≡ times + asks later
  asks-unanswered waiter zero later = omega arith
  asks-unanswered waiter (suc times) later = let rest = asks-unanswered waiter times later in omega (arith, rest)

  asks-unready : (sleep times : ℕ) (later : List FleetCall) → asks (unready sleep times ++ later) ≡ times + asks later
  asks-unready sleep zero later = omega arith
  asks-unready sleep (suc times) later = let rest = asks-unready sleep times later in omega (arith, rest)

  -- a sleep that is over wasn't asked so often
  sleep-rest : (sleep n a : ℕ) (old new last : T) (later : List FleetCall) → Chained does old (unready sleep n) new →
      Chained does old (awaited (Some sleep) a ++ later) last → asks (awaited (Some sleep) a) < asks (unready sleep n) → ⊥
  sleep-rest sleep n a old new last later made too less =
      let asked = asks-unready sleep n [] in
      let whole = ap asks (append-nil (unready sleep n)) in
      let woke : asks (awaited (Some sleep) a) ≡ a + asks (timed (Ready sleep true) ∷ []) = asks-unready sleep a (timed (Ready sleep true) ∷ []) in
      no_sleep does steady sleep n a later old old new last refl made
      (subst (λ calls. Chained does old calls last) (append_assoc (unready sleep a) (timed (Ready sleep true) ∷ []) later) too)
      (omega (arith, asked, whole, woke, less))

  wake-rest : (slept : Option ℕ) (n a : ℕ) (old new last : T) (later : List FleetCall) → Chained does old (awaited slept n) new →
      Chained does old (awaited slept a ++ later) last → asks (awaited slept a) < asks (awaited slept n) → ⊥
  wake-rest None n a old new last later made too less = omega (arith, less)
  wake-rest (Some sleep) n a old new last later made too less =
      let parts = chained-split does (unready sleep n) (timed (Ready sleep true) ∷ []) old new made in
      let asked : asks (awaited (Some sleep) n) ≡ n + asks (timed (Ready sleep true) ∷ []) = asks-unready sleep n (timed (Ready sleep true) ∷ []) in
      let woke : asks (awaited (Some sleep) a) ≡ a + asks (timed (Ready sleep true) ∷ []) = asks-unready sleep a (timed (Ready sleep true) ∷ []) in
      no_sleep does steady sleep n a later old old parts.0 last refl parts.1
      (subst (λ calls. Chained does old calls last) (append_assoc (unready sleep a) (timed (Ready sleep true) ∷ []) later) too)
      (omega (arith, asked, woke, less))

  -- what was still asked of a waiter whose poll was paid for
  poll-rest : (acts : List Act) (rest : List FleetCall) (w number a : ℕ) (f : Seen × AcceptorState) (old new last : T) (later : List FleetCall) →
      Rest does o start acts rest → MayPoll o.plans o.book start (events_of acts) w number → Chained does old rest new →
      Chained does old (unanswered w a ++ polled w (Ok (Some f)) ∷ later) last → a < asks rest → ⊥
  poll-rest acts rest w number a f old new last later (unpolled v n turn paid) poll made too less =
      let tw : v ≡ w = same_turn (length o.plans) start (events_of acts) v w turn poll.turn in
      let whole = ap asks (append-nil (unanswered v n)) in
      let alone = asks-unanswered v n [] in
      no_answer does steady w n a f later old old new last refl (subst (λ x. Chained does old (unanswered x n) new) tw made) too
      (omega (arith, whole, alone, less))
  poll-rest acts rest w number a f old new last later (asleep v sleep n turn unpaid is) poll made too less =
      let tw : w ≡ v = same_turn (length o.plans) start (events_of acts) w v poll.turn turn in
      let paid = subst (λ x. charges x (events_of acts) ≡ polls x (events_of acts)) tw poll.paid in
      omega (arith, paid, unpaid)
  poll-rest acts rest w number a f old new last later (awoken v n turn unpaid) poll made too less =
      let tw : w ≡ v = same_turn (length o.plans) start (events_of acts) w v poll.turn turn in
      let paid = subst (λ x. charges x (events_of acts) ≡ polls x (events_of acts)) tw poll.paid in
      omega (arith, paid, unpaid)

  -- or wasn't
  ask-rest : (acts : List Act) (rest : List FleetCall) (w i a : ℕ) (granted : Bool) (old new last : T) (later : List FleetCall) →
      Rest does o start acts rest → MayAsk o.plans o.book start (events_of acts) w i granted → Chained does old rest new →
      Chained does old (awaited (open_sleep w acts) a ++ later) last → asks (awaited (open_sleep w acts) a) < asks rest → ⊥
  ask-rest acts rest w i a granted old new last later (unpolled v n turn paid) ask made too less =
      let tw : v ≡ w = same_turn (length o.plans) start (events_of acts) v w turn ask.turn in
      let same = subst (λ x. charges x (events_of acts) ≡ polls x (events_of acts)) tw paid in
      let unpaid = ask.unpaid in
      omega (arith, same, unpaid)
  ask-rest acts rest w i a granted old new last later (asleep v sleep n turn unpaid is) ask made too less =
      let tw : v ≡ w = same_turn (length o.plans) start (events_of acts) v w turn ask.turn in
      let at : open_sleep w acts ≡ Some sleep = subst (λ x. open_sleep x acts ≡ Some sleep) tw is in
      sleep-rest sleep n a old new last later made
      (subst (λ s. Chained does old (awaited s a ++ later) last) at too)
      (subst (λ s. asks (awaited s a) < asks (unready sleep n)) at less)
  ask-rest acts rest w i a granted old new last later (awoken v n turn unpaid) ask made too less =
      let tw : v ≡ w = same_turn (length o.plans) start (events_of acts) v w turn ask.turn in
      wake-rest (open_sleep w acts) n a old new last later
      (subst (λ x. Chained does old (awaited (open_sleep x acts) n) new) tw made) too
      (subst (λ x. asks (awaited (open_sleep w acts) a) < asks (awaited (open_sleep x acts) n)) tw less)

  -- where a fleet stops, nothing more happens
  stopped : (acts : List Act) (old : T) (event : FleetEvent) (a p : ℕ) (new : T) → Stops acts old → Goes acts old (act_of event a p) new → ⊥
  stopped acts old (Poll w n i seen state) a p new stops goes =
      let spent = stops.all_spent w goes.follows.turn.within goes.follows.turn.waits in
      let sum = asks-append (calls_of acts) stops.rest in
      let within = goes.within in
      let own = asks-append (calls_of acts) (unanswered w a ++ (polled w (Ok (Some (seen, state))) ∷ timed (Now i) ∷ [])) in
      let poll = asks-unanswered w a (polled w (Ok (Some (seen, state))) ∷ timed (Now i) ∷ []) in
      let fewer : a < asks stops.rest = omega (arith, spent, sum, within, own, poll) in
      elim stops.is_rest [
        | inl none ↦ let nothing = ap asks none in omega (arith, fewer, nothing)
        | inr rest ↦ poll-rest acts stops.rest w n a (seen, state) old stops.new new (timed (Now i) ∷ []) rest goes.follows stops.made goes.made fewer
      ]
  stopped acts old (Charged w i) a p new stops goes =
      let spent = stops.all_spent w goes.follows.turn.within goes.follows.turn.waits in
      let sum = asks-append (calls_of acts) stops.rest in
      let less = goes.funded refl in
      let own = asks-append (calls_of acts) (awaited (open_sleep w acts) a ++ timed (Now i) ∷ []) in
      let wake = asks-append (awaited (open_sleep w acts) a) (timed (Now i) ∷ []) in
      let fewer : asks (awaited (open_sleep w acts) a) < asks stops.rest = omega (arith, spent, sum, less, own, wake) in
      elim stops.is_rest [
        | inl none ↦ let nothing = ap asks none in omega (arith, fewer, nothing)
        | inr rest ↦ ask-rest acts stops.rest w i a true old stops.new new (timed (Now i) ∷ []) rest goes.follows stops.made goes.made fewer
      ]
  stopped acts old (Refused w c i) a p new stops goes =
      let spent = stops.all_spent w goes.follows.0.turn.within goes.follows.0.turn.waits in
      let sum = asks-append (calls_of acts) stops.rest in
      let less = goes.funded refl in
      let own = asks-append (calls_of acts) (awaited (open_sleep w acts) a ++ timed (Now i) ∷ []) in
      let wake = asks-append (awaited (open_sleep w acts) a) (timed (Now i) ∷ []) in
      let fewer : asks (awaited (open_sleep w acts) a) < asks stops.rest = omega (arith, spent, sum, less, own, wake) in
      elim stops.is_rest [
        | inl none ↦ let nothing = ap asks none in omega (arith, fewer, nothing)
        | inr rest ↦ ask-rest acts stops.rest w i a false old stops.new new (timed (Now i) ∷ []) rest goes.follows.0 stops.made goes.made fewer
      ]
  stopped acts old (Sleep w n e x) a p new stops goes =
      let settled = stops.settled in
      let is = begins-settled (events_of acts) (Sleep w n e x) goes.follows in
      cc (settled, is)
  stopped acts old (End w ending) a p new stops goes =
      let settled = stops.settled in
      let is = begins-settled (events_of acts) (End w ending) goes.follows in
      cc (settled, is)

  -- the acts with those that follow
  abbrev onto : List Act → List Act → List Act
  onto acts [] = acts
  onto acts (act ∷ later) = onto (act ∷ acts) later

  one-path : (acts others : List Act) (old : T) (later after : List Act) → Same acts others → Path acts old later → Path others old after →
      events_of (onto acts later) ≡ events_of (onto others after)
  one-path acts others old [] [] same stops ends = same.events
  one-path acts others old [] (act ∷ after) same stops (new, goes, path) =
      absurd (stopped acts old act.event act.times act.sleep new stops (carried acts others old act new same goes))
  one-path acts others old (act ∷ later) [] same (new, goes, path) stops =
      absurd (stopped others old act.event act.times act.sleep new stops (carried others acts old act new (turned acts others same) goes))
  one-path acts others old (act ∷ later) (other ∷ after) same (new, goes, path) (last, too, way) =
      let equal = step acts old new last act.event other.event act.times other.times act.sleep other.sleep goes (carried acts others old other last same too) in
      one-path (act ∷ acts) (other ∷ others) new later after (grown acts others act other new last same equal) path
      (subst (λ t. Path (other ∷ others) t after) (sym equal.world) way)

  -- the acts turned round, before those that follow
  abbrev unwound : List Act → List Act → List Act
  unwound [] later = later
  unwound (act ∷ acts) later = unwound acts (act ∷ later)

  onto-unwound : (acts later : List Act) → onto [] (unwound acts later) ≡ onto acts later
  onto-unwound [] later = refl
  onto-unwound (act ∷ acts) later = onto-unwound acts (act ∷ later)

  path-of : (acts later : List Act) (begun old : T) → IsFleet o.plans o.book start (events_of acts) → AreFunded o.fuel acts →
      asks (calls_of acts) ≤ o.fuel → Chained does begun (calls_of acts) old → Path acts old later → Path [] begun (unwound acts later)
  path-of [] later begun old fleet funded within made path = subst (λ t. Path [] t later) made path
  path-of (act ∷ acts) later begun old fleet funded within made path =
      let own = calls_with act.event act.times act.sleep (open_sleep (waiter_of act.event) acts) in
      let parts = chained-split does (calls_of acts) own begun old made in
      let sum = asks-append (calls_of acts) own in
      path-of acts (act ∷ later) begun parts.0 fleet.1 funded.1 (omega (arith, sum, within)) parts.1
      (old, record { follows = fleet.0; made = parts.2; within = within; funded = funded.0 }, path)

  whole-path : {count : T → ℕ} {events : List FleetEvent} {book : Book} {world : T} (begun : T) (waits : WaitsAll does count o events book world) →
      waits.start ≡ start → Chained does begun (calls_of waits.acts ++ waits.rest) world → Path [] begun (unwound waits.acts [])
  whole-path {count} {events} {book} {world} begun waits at made =
      let parts = chained-split does (calls_of waits.acts) waits.rest begun world made in
      let sum = asks-append (calls_of waits.acts) waits.rest in
      let within = waits.within in
      path-of waits.acts [] begun parts.0
      (subst (λ s. IsFleet o.plans o.book s (events_of waits.acts)) at waits.fleet) waits.funded (omega (arith, sum, within)) parts.1
      (record {
        settled = waits.settled;
        rest = waits.rest;
        is_rest = subst (λ s. (waits.rest ≡ []) ⊎ Rest does o s waits.acts waits.rest) at waits.is_rest;
        new = world;
        made = parts.2;
        all_spent = waits.all_spent;
      })

pub runs-determined : {T : Type 0} (does : T → FleetCall → T → Type 0) (count : T → ℕ) → RunsAreDetermined does count
runs-determined {T} does count steady o events others book other world last one two =
    let first = one.made in
    let again = two.made in
    let at : two.start ≡ one.start = steady.tells o.world again.0 first.0 two.start one.start again.1 first.1 in
    let moved : again.0 ≡ first.0 = steady.moves o.world again.0 first.0 (timed (Now two.start)) again.1
    (subst (λ s. does o.world (timed (Now s)) first.0) (sym at) first.1) in
    let path = whole-path does steady o one.start first.0 one refl first.2 in
    let way = whole-path does steady o one.start again.0 two at again.2 in
    let met = one-path does steady o one.start [] [] first.0 (unwound does steady o one.start one.acts []) (unwound does steady o one.start two.acts [])
    (record { events = refl; calls = refl; sleeps = λ waiter. refl }) path
    (subst (λ t. Path does steady o one.start [] t (unwound does steady o one.start two.acts [])) moved way) in
    let same : events_of one.acts ≡ events_of two.acts =
    sym (ap events_of (onto-unwound does steady o one.start one.acts [])) ∙ (met ∙ ap events_of (onto-unwound does steady o one.start two.acts [])) in (
      one.happened ∙ (ap (λ es. in_order (left_over (length o.plans) es ++ es)) same ∙ sym two.happened),
      one.books ∙ (ap (book_after o.book) same ∙ sym two.books),
    )

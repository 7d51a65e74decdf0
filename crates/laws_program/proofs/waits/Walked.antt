-- A waiter's walk is a way, ask by ask.
use Rattle.std.proofs.Common.{◌≡◌, inl, inr, ℕ, ◌+◌, ◌-◌, ◌≤◌, ◌⊎◌, Bool, true, false, List, [], ◌∷◌, ◌++◌, Option, Some, Ok, Err, length, zero, suc, arith, ap, sym, subst, refl, ◌∙◌, map, cond, append-nil, append_assoc}
use Rattle.std.specs.Prelude.{◌==◌, ◌||◌}
use Rattle.std.proofs.lemmas.Bool.{ne_eqb}
use Rattle.smithy_types.specs.declared.timers.TimersCall.TheVariants.{Now, Start, Ready}
use Rattle.waiters.specs.Calls.{called, polled}
use Rattle.waiters.specs.Walk.{End, IsTurn, IsWalk, Turn, number_after, zero_used}
use Rattle.waiters.specs.Walk as walk
use Rattle.waiters.specs.WalkCalls.{Rest, Waits, delay_calls, ended, poll_calls, poll_refused, polling, sleep_refused, sleeping as dozing, turn_calls, unanswered, unready, walk_calls}
use Rattle.waiters.specs.declared.backoff.Backoff.{Backoff}
use Rattle.waiters.specs.declared.outcome.WaiterError.TheVariants as end
use Rattle.waiters.specs.declared.timers.WaiterCall.{WaiterCall}
use Rattle.waiters.specs.declared.timers.WaiterCall.TheVariants.{Timers, Word}
use Rattle.cli_wait.specs.declared.ending.WaitEnding.{WaitEnding}
use Rattle.cli_wait.specs.declared.ending.WaitEnding.TheVariants as endings
use Rattle.cli_wait.specs.declared.polls.PolledValue.{PolledValue}
use Rattle.cli_wait.specs.declared.scripted_timers.ScriptedTimers.{ScriptedTimers}
use Rattle.cli_wait.specs.Endings.{ending_of}
use Rattle.cli_wait.specs.Makes.{Makes}
use Rattle.cli_wait.specs.declared.polls.ScriptedPoll.{ScriptedPoll}
use Rattle.cli_wait.specs.Polls.{Answers, poll_at}
use Rattle.cli_wait.specs.Walk.{Says, Tells}
use Rattle.laws_program.proofs.waits.Asked.{EndedAt, told_end, told_verdict}
use Rattle.laws_program.proofs.waits.Calls.{Happened, Made, split, weight, weight-append, weight-unanswered, weight-unready, weight_is}
use Rattle.laws_program.proofs.waits.Turned.{Goes, Rests, Stage, Turned, asking, number_of, sleeping}

-- fuel with so many units more, one by one
abbrev fueled : ℕ → ℕ → ℕ
fueled zero fuel = fuel
fueled (suc times) fuel = suc (fueled times fuel)

fueled_is : (times fuel : ℕ) → fueled times fuel ≡ times + fuel
fueled_is zero fuel = omega arith
fueled_is (suc times) fuel = let rest = fueled_is times fuel in omega (arith, rest)

module _ (backoff : Backoff) (start : ℕ) (ending : WaitEnding) (last : ScriptedTimers) where
  abbrev Way : ℕ → Stage → ℕ → Bool → ScriptedTimers → Type 0
  Way fuel stage count used old = Goes backoff.min_delay backoff.max_delay backoff.max_wait start fuel stage count used old ending last

  -- the asks of a poll that isn't answered yet, and then what follows
  pended : (fuel times count : ℕ) (used : Bool) (old new : ScriptedTimers) (more : List Made) → Happened old (unanswered (number_of count) times ++ more) new →
      ((mid : ScriptedTimers) → Happened mid more new → Way fuel asking count used mid) → Way (fueled times fuel) asking count used old
  pended fuel zero count used old new more happened next = next old happened
  pended fuel (suc times) count used old new more (asked, (made, polls), (parked, parks, rest)) next =
      inl (record { asked = asked; made = made; parked = parked; parks = parks; goes = pended fuel times count used parked new more rest next })

  -- the asks of a sleep that isn't over yet, and then what follows
  slept : (fuel times sleep count : ℕ) (used : Bool) (old new : ScriptedTimers) (more : List WaiterCall) → Happened old (map called (unready sleep times ++ more)) new →
      ((mid : ScriptedTimers) → Happened mid (map called more) new → Way fuel (sleeping sleep) count used mid) → Way (fueled times fuel) (sleeping sleep) count used old
  slept fuel zero sleep count used old new more happened next = next old happened
  slept fuel (suc times) sleep count used old new more (asked, made, (parked, parks, rest)) next =
      inl (record { asked = asked; made = made; parked = parked; parks = parks; goes = slept fuel times sleep count used parked new more rest next })

  -- what a poll means that was answered, with this fuel left
  abbrev Means : ℕ → List (Turn PolledValue PolledValue) → walk.Poll PolledValue PolledValue → Option ScriptedPoll → ScriptedTimers → Type 0
  Means fuel before poll found after =
      ((last ≡ after) × EndedAt found backoff.max_wait (number_after before) (poll.moment - start) (zero_used before) ending)
      ⊎ Turned found backoff.min_delay backoff.max_delay backoff.max_wait (number_after before) (poll.moment - start) (zero_used before) after
      (λ stage used mid. Way fuel stage (suc (length before)) used mid)

  -- a poll that is answered, and what follows
  answered : (fuel : ℕ) (before : List (Turn PolledValue PolledValue)) (poll : walk.Poll PolledValue PolledValue) (old new : ScriptedTimers) (more : List Made) →
      Happened old (poll_calls (number_after before) poll ++ more) new →
      ((found : Option ScriptedPoll) (after : ScriptedTimers) → Answers found poll.result → Happened after more new → Means fuel before poll found after) →
      Way (fueled poll.pending (suc fuel)) asking (length before) (zero_used before) old
  answered fuel before poll old new more happened next =
      let own : List Made = polled (number_after before) (Ok (Some poll.result)) ∷ called (Timers (Now poll.moment)) ∷ [] in
      pended (suc fuel) poll.pending (length before) (zero_used before) old new
      (polled (number_after before) (Ok (Some poll.result)) ∷ called (Timers (Now poll.moment)) ∷ more)
      (subst (λ calls. Happened old calls new) (append_assoc (unanswered (number_after before) poll.pending) own more) happened)
      (λ mid happens. inr (record {
        asked = happens.0;
        made = happens.1.0;
        moment = poll.moment;
        after = happens.2.0;
        told = happens.2.1;
        goes = next (poll_at mid.polls (number_after before)) happens.2.0
            (subst (λ (t : ScriptedTimers). Answers (poll_at t.polls (number_after before)) poll.result) happens.1.1.shows happens.1.1.met) happens.2.2;
      }))

  -- a delay, and the poll behind it
  rested : (fuel count : ℕ) (used : Bool) (drawn new : ScriptedTimers) (delay sleep times : ℕ) (none : Bool) →
      Happened drawn (map called (cond none [] (Timers (Start delay (Ok (Some sleep))) ∷ (unready sleep times ++ (Timers (Ready sleep true) ∷ []))))) new →
      Way fuel asking count used new → Rests (λ stage at mid. Way (cond none fuel (fueled times (suc fuel))) stage count at mid) used drawn delay none
  rested fuel count used drawn new delay sleep times true same next = subst (λ t. Way fuel asking count used t) (sym same) next
  rested fuel count used drawn new delay sleep times false (asleep, starts, rest) next = (
    sleep,
    asleep,
    starts,
    slept (suc fuel) times sleep count used asleep new (Timers (Ready sleep true) ∷ []) rest
        (λ mid happens. inr (happens.0, happens.1, subst (λ t. Way fuel asking count used t) (sym happens.2) next)),
  )

  -- the fuel of a turn, before what is left behind it
  abbrev spent : ℕ → Turn PolledValue PolledValue → ℕ
  spent fuel turn = fueled turn.poll.pending (suc (cond (turn.delay == 0) fuel (fueled turn.unready (suc fuel))))

  turned : (fuel : ℕ) (before : List (Turn PolledValue PolledValue)) (turn : Turn PolledValue PolledValue) (old new : ScriptedTimers) →
      IsTurn backoff Says start before turn → Happened old (turn_calls (number_after before) turn) new →
      Way fuel asking (length (turn ∷ before)) (zero_used (turn ∷ before)) new → Way (spent fuel turn) asking (length before) (zero_used before) old
  turned fuel before turn old new follows happened next =
      answered (cond (turn.delay == 0) fuel (fueled turn.unready (suc fuel))) before turn.poll old new
      (map called (Word turn.word ∷ delay_calls turn.delay turn.sleep turn.unready)) happened
      (λ found after is rest. inr (record {
        goes = sym (told_verdict found turn.poll.result turn.poll.state is follows.accepts) ∙ follows.goes;
        no_zero = follows.no_zero;
        in_time = follows.in_time;
        word = turn.word;
        drawn = rest.0;
        draws = rest.1;
        delay = turn.delay;
        delays = follows.delays;
        rests = rested fuel (length (turn ∷ before)) (zero_used (turn ∷ before)) rest.0 new turn.delay turn.sleep turn.unready (turn.delay == 0) rest.2 next;
      }))

  delay_weight : (fuel delay sleep times : ℕ) (none : Bool) →
      weight (map called (cond none [] (Timers (Start delay (Ok (Some sleep))) ∷ (unready sleep times ++ (Timers (Ready sleep true) ∷ []))))) + fuel ≡ cond none fuel (fueled times (suc fuel))
  delay_weight fuel delay sleep times true = omega arith
  delay_weight fuel delay sleep times false = let asked = weight-unready sleep times (Timers (Ready sleep true) ∷ []) in omega (arith, asked, fueled_is times (suc fuel))

  poll_weight : (number : ℕ) (poll : walk.Poll PolledValue PolledValue) (more : List Made) → weight (poll_calls number poll ++ more) ≡ poll.pending + suc (weight more)
  poll_weight number poll more =
      let own : List Made = polled number (Ok (Some poll.result)) ∷ called (Timers (Now poll.moment)) ∷ [] in
      let sum = ap weight (append_assoc (unanswered number poll.pending) own more) in
      let asked = weight-unanswered number poll.pending (polled number (Ok (Some poll.result)) ∷ called (Timers (Now poll.moment)) ∷ more) in
      omega (arith, sum, asked)

  turn_weight : (fuel number : ℕ) (turn : Turn PolledValue PolledValue) → weight (turn_calls number turn) + fuel ≡ spent fuel turn
  turn_weight fuel number turn =
      let polls = poll_weight number turn.poll (map called (Word turn.word ∷ delay_calls turn.delay turn.sleep turn.unready)) in
      let rests = delay_weight fuel turn.delay turn.sleep turn.unready (turn.delay == 0) in
      omega (arith, polls, rests, fueled_is turn.poll.pending (suc (cond (turn.delay == 0) fuel (fueled turn.unready (suc fuel)))))

  -- the turns, and what follows them
  pub walked : (fuel : ℕ) (turns : List (Turn PolledValue PolledValue)) (old new : ScriptedTimers) → IsWalk backoff Says start turns → Happened old (walk_calls turns) new →
      Way fuel asking (length turns) (zero_used turns) new → Way (weight (walk_calls turns) + fuel) asking 0 false old
  walked fuel [] old new walks same next = subst (λ n. Way n asking 0 false old) (omega arith) (subst (λ t. Way fuel asking 0 false t) (sym same) next)
  walked fuel (turn ∷ before) old new walks happened next =
      let own = turn_calls (number_after before) turn in
      let parts = split (walk_calls before) own old new happened in
      let first = turned fuel before turn parts.0 new walks.0 parts.2 next in
      let whole = walked (spent fuel turn) before old parts.0 walks.1 parts.1 first in
      let sum = weight-append (walk_calls before) own in
      let one = turn_weight fuel (number_after before) turn in
      subst (λ n. Way n asking 0 false old) (omega (arith, sum, one)) whole

  same_some : (one other : WaitEnding) → Some one ≡ Some other → one ≡ other
  same_some one other is = cc

  -- what stands behind the turns
  pub rest_goes : (fuel : ℕ) (turns : List (Turn PolledValue PolledValue)) (final : End PolledValue PolledValue) (rest : List Made) (old : ScriptedTimers) →
      Rest backoff Says start turns final rest → Happened old rest last → ending_of final ≡ Some ending → weight rest ≤ fuel → (final ≡ Err end.Unfinished → weight rest ≡ fuel) →
      Way fuel asking (length turns) (zero_used turns) old
  rest_goes fuel turns final rest old (ended poll ends) happened told within all =
      let calls = poll_calls (number_after turns) poll in
      let sum = ap weight (append-nil calls) in
      let one = poll_weight (number_after turns) poll [] in
      subst (λ n. Way n asking (length turns) (zero_used turns) old) (omega (arith, sum, one, within, fueled_is poll.pending (suc (fuel - suc poll.pending))))
      (answered (fuel - suc poll.pending) turns poll old last [] (subst (λ xs. Happened old xs last) (sym (append-nil calls)) happened)
      (λ found after is same. inl (sym same, told_end backoff start turns poll final found ending is ends.accepts ends.ends told)))
  rest_goes fuel turns final rest old (polling times) happened told within all =
      let calls = unanswered (number_after turns) times in
      let sum = ap weight (append-nil calls) in
      let asked = weight-unanswered (number_after turns) times [] in
      let whole = all refl in
      subst (λ n. Way n asking (length turns) (zero_used turns) old) (omega (arith, sum, asked, whole, fueled_is times 0))
      (pended 0 times (length turns) (zero_used turns) old last [] (subst (λ xs. Happened old xs last) (sym (append-nil calls)) happened)
      (λ mid same. (sym (same_some endings.Unfinished ending told), same)))
  rest_goes fuel turns final rest old (dozing turn times follows some) happened told within all =
      let asked = unready turn.sleep times in
      let tail : List Made = map called (Word turn.word ∷ Timers (Start turn.delay (Ok (Some turn.sleep))) ∷ asked) in
      let polls = poll_weight (number_after turns) turn.poll tail in
      let sum : weight (map called (asked ++ [])) ≡ weight (map called asked) = ap (λ calls. weight (map called calls)) (append-nil asked) in
      let times_are = weight-unready turn.sleep times [] in
      let whole = all refl in
      subst (λ n. Way n asking (length turns) (zero_used turns) old) (omega (arith, polls, sum, times_are, whole, fueled_is times 0, fueled_is turn.poll.pending (suc (fueled times 0))))
      (answered (fueled times 0) turns turn.poll old last tail happened
      (λ found after is rest. inr (record {
        goes = sym (told_verdict found turn.poll.result turn.poll.state is follows.accepts) ∙ follows.goes;
        no_zero = follows.no_zero;
        in_time = follows.in_time;
        word = turn.word;
        drawn = rest.0;
        draws = rest.1;
        delay = turn.delay;
        delays = follows.delays;
        rests = subst (λ none. Rests (λ stage at mid. Way (fueled times 0) stage (suc (length turns)) at mid) ((turn.delay == 0) || zero_used turns) rest.0 turn.delay none)
            (sym (ne_eqb turn.delay 0 some)) (
              turn.sleep,
              rest.2.0,
              rest.2.1,
              slept 0 times turn.sleep (suc (length turns)) ((turn.delay == 0) || zero_used turns) rest.2.0 last []
                  (subst (λ calls. Happened rest.2.0 (map called calls) last) (sym (append-nil asked)) rest.2.2)
                  (λ mid same. (sym (same_some endings.Unfinished ending told), same)),
            );
      })))
  rest_goes fuel turns final rest old (poll_refused times refused) happened told within all = absurd (cc told)
  rest_goes fuel turns final rest old (sleep_refused turn refused follows some) happened told within all = absurd (cc told)

-- a walk that ends with memory left is a way from the script's first moment, with all its fuel
pub waits_go : (backoff : Backoff) (old last : ScriptedTimers) (fuel : ℕ) (final : End PolledValue PolledValue) (ending : WaitEnding) →
    Waits backoff Says Makes (λ timers. timers.unready) Tells old fuel final last → ending_of final ≡ Some ending →
    Goes backoff.min_delay backoff.max_delay backoff.max_wait old.moment fuel asking 0 false old ending last
waits_go backoff old last fuel final ending waits told =
    let handed = waits.handed in
    let at : waits.start ≡ old.moment = handed.1.0 in
    let same : handed.0 ≡ old = handed.1.1 in
    let parts = split (walk_calls waits.turns) waits.rest handed.0 last handed.2 in
    let sum = weight-append (walk_calls waits.turns) waits.rest in
    let all = weight_is (walk_calls waits.turns ++ waits.rest) in
    let within = waits.within in
    let left = fuel - weight (walk_calls waits.turns) in
    let behind = rest_goes backoff waits.start ending last left waits.turns final waits.rest parts.0 waits.ends parts.2 told
    (omega (arith, sum, all, within)) (λ stays. let spent = waits.spent stays in omega (arith, sum, all, spent)) in
    let whole = walked backoff waits.start ending last left waits.turns handed.0 parts.0 waits.walks parts.1 behind in
    let full = subst (λ n. Goes backoff.min_delay backoff.max_delay backoff.max_wait waits.start n asking 0 false handed.0 ending last) (omega (arith, sum, all, within)) whole in
    subst (λ t. Goes backoff.min_delay backoff.max_delay backoff.max_wait old.moment fuel asking 0 false t ending last) same
    (subst (λ m. Goes backoff.min_delay backoff.max_delay backoff.max_wait m fuel asking 0 false handed.0 ending last) at full)

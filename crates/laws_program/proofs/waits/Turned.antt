-- A waiter's way over a script, ask by ask: it is one way.
use Rattle.std.proofs.Common.{◌≡◌, ◌⊎◌, inl, inr, ℕ, ◌+◌, ◌-◌, ◌≤◌, Bool, true, false, Option, Some, Ok, min, ◌^◌, zero, suc, arith, ap, sym, subst, ◌∙◌}
use Rattle.std.specs.Prelude.{◌==◌, ◌||◌}
use Rattle.smithy_types.specs.declared.timers.TimersCall.TheVariants.{Now, Start, Ready}
use Rattle.waiters.specs.Delay.{IsDelay}
use Rattle.waiters.specs.Walk.{goes_on}
use Rattle.waiters.specs.declared.timers.PollAnswer.TheVariants as poll
use Rattle.waiters.specs.declared.timers.WaiterCall.{WaiterCall}
use Rattle.waiters.specs.declared.timers.WaiterCall.TheVariants.{Timers, Word, Park, Poll}
use Rattle.cli_wait.specs.declared.ending.WaitEnding.{WaitEnding}
use Rattle.cli_wait.specs.declared.ending.WaitEnding.TheVariants as endings
use Rattle.cli_wait.specs.declared.polls.ScriptedPoll.{ScriptedPoll}
use Rattle.cli_wait.specs.declared.scripted_timers.ScriptedTimers.{ScriptedTimers}
use Rattle.cli_wait.specs.Makes.{Makes}
use Rattle.cli_wait.specs.Polls.{poll_at}
use Rattle.laws_program.proofs.waits.Asked.{EndedAt, verdict_of}
use Rattle.laws_program.proofs.waits.Calls.{answered_once, moves, one_delay, one_sleep, one_word, over_once}

-- whether the operation is asked next, or a sleep
pub data Stage : Type 0 where
  asking : Stage
  sleeping : ℕ → Stage

-- the number of the poll behind so many turns
abbrev pub number_of : ℕ → ℕ
number_of count = min (count + 1) (2 ^ 32 - 1)

-- what comes next, where it begins with this stage, after a delay of 0 or not, and from these timers
abbrev pub Next : Type 1
Next = Stage → Bool → ScriptedTimers → Type 0

-- a call that was in vain, and a park
pub record Paused (old : ScriptedTimers) (call : WaiterCall) (next : ScriptedTimers → Type 0) : Type 0 where
  pub asked : ScriptedTimers
  pub made : Makes old call asked
  pub parked : ScriptedTimers
  pub parks : Makes asked Park parked
  pub goes : next parked

-- what follows a delay: the next poll, or a sleep before it
abbrev pub Rests : Next → Bool → ScriptedTimers → ℕ → Bool → Type 0
Rests next used drawn delay true = next asking used drawn
Rests next used drawn delay false = (sleep : ℕ) × (slept : ScriptedTimers) × Makes drawn (Timers (Start delay (Ok (Some sleep)))) slept × next (sleeping sleep) used slept

-- a poll that doesn't end the waiter, and the delay behind it
pub record Turned (found : Option ScriptedPoll) (least greatest most number elapsed : ℕ) (used : Bool) (after : ScriptedTimers) (next : Next) : Type 0 where
  pub goes : verdict_of found ≡ goes_on
  pub no_zero : used ≡ false
  pub in_time : elapsed ≤ most
  pub word : ℕ
  pub drawn : ScriptedTimers
  pub draws : Makes after (Word word) drawn
  pub delay : ℕ
  pub delays : IsDelay least greatest most number elapsed word delay
  pub rests : Rests next ((delay == 0) || used) drawn delay (delay == 0)

-- a poll that was answered, and what it means
pub record Answered (least greatest most start number : ℕ) (used : Bool) (old : ScriptedTimers) (ending : WaitEnding) (new : ScriptedTimers) (next : Next) : Type 0 where
  pub asked : ScriptedTimers
  pub made : Makes old (Poll number poll.Answered) asked
  pub moment : ℕ
  pub after : ScriptedTimers
  pub told : Makes asked (Timers (Now moment)) after
  pub goes : ((new ≡ after) × EndedAt (poll_at old.polls number) most number (moment - start) used ending)
      ⊎ Turned (poll_at old.polls number) least greatest most number (moment - start) used after next

-- how two ways end
pub record Same (ending other : WaitEnding) (new last : ScriptedTimers) : Type 0 where
  pub ending_is : ending ≡ other
  pub timers_are : new ≡ last

-- two parts from one beginning that end alike
abbrev Alike : (ending other : WaitEnding) (new last : ScriptedTimers) → Next → Next → Type 0
Alike ending other new last next after = (stage : Stage) (used : Bool) (mid : ScriptedTimers) → next stage used mid → after stage used mid → Same ending other new last

module _ (ending other : WaitEnding) (new last : ScriptedTimers) where
  one_pause : (old : ScriptedTimers) (call : WaiterCall) (next after : ScriptedTimers → Type 0) → Paused old call next → Paused old call after →
      ((mid : ScriptedTimers) → next mid → after mid → Same ending other new last) → Same ending other new last
  one_pause old call next after one two alike =
      let asked = moves old one.asked two.asked call one.made two.made in
      let parked = moves one.asked one.parked two.parked Park one.parks (subst (λ t. Makes t Park two.parked) (sym asked) two.parks) in
      alike one.parked one.goes (subst after (sym parked) two.goes)

  one_rest : (next after : Next) (used : Bool) (drawn : ScriptedTimers) (delay : ℕ) (none : Bool) → Alike ending other new last next after →
      Rests next used drawn delay none → Rests after used drawn delay none → Same ending other new last
  one_rest next after used drawn delay true alike one two = alike asking used drawn one two
  one_rest next after used drawn delay false alike (sleep, slept, starts, goes) (too, resting, begins, lasts) =
      let same = one_sleep drawn slept resting delay sleep too starts begins in
      let begins' = subst (λ s. Makes drawn (Timers (Start delay (Ok (Some s)))) resting) (sym same) begins in
      let moved = moves drawn slept resting (Timers (Start delay (Ok (Some sleep)))) starts begins' in
      alike (sleeping sleep) used slept goes
      (subst (λ t. after (sleeping sleep) used t) (sym moved) (subst (λ s. after (sleeping s) used resting) (sym same) lasts))

  module _ (found : Option ScriptedPoll) (least greatest most number elapsed : ℕ) (used : Bool) where
    one_turn : (mid : ScriptedTimers) (next after : Next) → Alike ending other new last next after →
        Turned found least greatest most number elapsed used mid next → Turned found least greatest most number elapsed used mid after → Same ending other new last
    one_turn mid next after alike one two =
        let word = one_word mid one.drawn two.drawn one.word two.word one.draws two.draws in
        let draws = subst (λ w. Makes mid (Word w) two.drawn) (sym word) two.draws in
        let drawn = moves mid one.drawn two.drawn (Word one.word) one.draws draws in
        let delays = subst (λ w. IsDelay least greatest most number elapsed w two.delay) (sym word) two.delays in
        let delay = one_delay least greatest most number elapsed one.word one.delay two.delay one.delays delays in
        let rests = subst (λ d. Rests after ((d == 0) || used) two.drawn d (d == 0)) (sym delay) two.rests in
        one_rest next after ((one.delay == 0) || used) one.drawn one.delay (one.delay == 0) alike one.rests
        (subst (λ t. Rests after ((one.delay == 0) || used) t one.delay (one.delay == 0)) (sym drawn) rests)

    -- a poll that goes on doesn't end the waiter
    ends_or_goes : (mid : ScriptedTimers) (next : Next) (end : WaitEnding) → EndedAt found most number elapsed used end → Turned found least greatest most number elapsed used mid next → ⊥
    ends_or_goes mid next end ends turned =
        elim (ends.late turned.goes) [
          | inl was ↦ let none = turned.no_zero in cc (was, none)
          | inr late ↦ let within = turned.in_time in omega (arith, late, within)
        ]

    one_meaning : (mid : ScriptedTimers) (next after : Next) → Alike ending other new last next after →
        ((new ≡ mid) × EndedAt found most number elapsed used ending) ⊎ Turned found least greatest most number elapsed used mid next →
        ((last ≡ mid) × EndedAt found most number elapsed used other) ⊎ Turned found least greatest most number elapsed used mid after →
        Same ending other new last
    one_meaning mid next after alike (inl (here, ends)) (inl (there, too)) = record { ending_is = ends.is ∙ sym too.is; timers_are = here ∙ sym there }
    one_meaning mid next after alike (inl (here, ends)) (inr turned) = absurd (ends_or_goes mid after ending ends turned)
    one_meaning mid next after alike (inr turned) (inl (there, ends)) = absurd (ends_or_goes mid next other ends turned)
    one_meaning mid next after alike (inr turned) (inr too) = one_turn mid next after alike turned too

  one_answer : (least greatest most start number : ℕ) (used : Bool) (old : ScriptedTimers) (next after : Next) → Alike ending other new last next after →
      Answered least greatest most start number used old ending new next → Answered least greatest most start number used old other last after → Same ending other new last
  one_answer least greatest most start number used old next after alike one two =
      let found = poll_at old.polls number in
      let asked = moves old one.asked two.asked (Poll number poll.Answered) one.made two.made in
      let moment : two.moment ≡ one.moment = two.told.0 ∙ (ap (λ (t : ScriptedTimers). t.moment) (sym asked) ∙ sym one.told.0) in
      let mid : two.after ≡ one.after = two.told.1 ∙ (sym asked ∙ sym one.told.1) in
      let there = subst (λ m. ((last ≡ two.after) × EndedAt found most number (m - start) used other) ⊎ Turned found least greatest most number (m - start) used two.after after) moment two.goes in
      one_meaning found least greatest most number (one.moment - start) used one.after next after alike one.goes
      (subst (λ t. ((last ≡ t) × EndedAt found most number (one.moment - start) used other) ⊎ Turned found least greatest most number (one.moment - start) used t after) mid there)

module _ (least greatest most start : ℕ) where
  -- What is left of a walk after so many turns: each ask spends a unit of fuel, and without any the
  -- walk doesn't end.
  abbrev pub Goes : ℕ → Stage → ℕ → Bool → ScriptedTimers → WaitEnding → ScriptedTimers → Type 0
  Goes zero stage count used old ending new = (ending ≡ endings.Unfinished) × (old ≡ new)
  Goes (suc fuel) (sleeping sleep) count used old ending new =
      Paused old (Timers (Ready sleep false)) (λ mid. Goes fuel (sleeping sleep) count used mid ending new)
      ⊎ ((mid : ScriptedTimers) × Makes old (Timers (Ready sleep true)) mid × Goes fuel asking count used mid ending new)
  Goes (suc fuel) asking count used old ending new =
      Paused old (Poll (number_of count) poll.Pending) (λ mid. Goes fuel asking count used mid ending new)
      ⊎ Answered least greatest most start (number_of count) used old ending new (λ stage at mid. Goes fuel stage (suc count) at mid ending new)

  pub one_way : (fuel : ℕ) (stage : Stage) (count : ℕ) (used : Bool) (old : ScriptedTimers) (ending other : WaitEnding) (new last : ScriptedTimers) →
      Goes fuel stage count used old ending new → Goes fuel stage count used old other last → Same ending other new last
  one_way zero stage count used old ending other new last (ends, here) (too, there) = record { ending_is = ends ∙ sym too; timers_are = sym here ∙ there }
  one_way (suc fuel) (sleeping sleep) count used old ending other new last (inl one) (inl two) =
      one_pause ending other new last old (Timers (Ready sleep false)) (λ mid. Goes fuel (sleeping sleep) count used mid ending new) (λ mid. Goes fuel (sleeping sleep) count used mid other last)
      one two (λ mid. one_way fuel (sleeping sleep) count used mid ending other new last)
  one_way (suc fuel) (sleeping sleep) count used old ending other new last (inl one) (inr (mid, over, goes)) = absurd (over_once old one.asked mid sleep one.made over)
  one_way (suc fuel) (sleeping sleep) count used old ending other new last (inr (mid, over, goes)) (inl two) = absurd (over_once old two.asked mid sleep two.made over)
  one_way (suc fuel) (sleeping sleep) count used old ending other new last (inr (mid, over, goes)) (inr (awake, ready, lasts)) =
      let same = moves old mid awake (Timers (Ready sleep true)) over ready in
      one_way fuel asking count used mid ending other new last goes (subst (λ t. Goes fuel asking count used t other last) (sym same) lasts)
  one_way (suc fuel) asking count used old ending other new last (inl one) (inl two) =
      one_pause ending other new last old (Poll (number_of count) poll.Pending) (λ mid. Goes fuel asking count used mid ending new) (λ mid. Goes fuel asking count used mid other last)
      one two (λ mid. one_way fuel asking count used mid ending other new last)
  one_way (suc fuel) asking count used old ending other new last (inl one) (inr two) = absurd (answered_once old one.asked two.asked (number_of count) one.made two.made)
  one_way (suc fuel) asking count used old ending other new last (inr one) (inl two) = absurd (answered_once old two.asked one.asked (number_of count) two.made one.made)
  one_way (suc fuel) asking count used old ending other new last (inr one) (inr two) =
      one_answer ending other new last least greatest most start (number_of count) used old
      (λ stage at mid. Goes fuel stage (suc count) at mid ending new) (λ stage at mid. Goes fuel stage (suc count) at mid other last)
      (λ stage at mid. one_way fuel stage (suc count) at mid ending other new last) one two

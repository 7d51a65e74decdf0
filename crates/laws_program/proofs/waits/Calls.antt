-- What scripted timers answer follows from what they were, want of memory aside.
use Rattle.std.proofs.Common.{◌≡◌, ℕ, ◌+◌, ◌-◌, ◌≤◌, ◌<◌, true, false, List, [], ◌∷◌, ◌++◌, Some, Ok, Err, zero, suc, arith, ap, sym, refl, ◌∙◌, map, cond}
use Rattle.std.specs.Prelude.{unwrap_or}
use Rattle.std.proofs.lemmas.List.Sums.{sum_by-cons}
use Rattle.smithy_types.specs.declared.timers.TimersCall.{TimersCall}
use Rattle.smithy_types.specs.declared.timers.TimersCall.TheVariants.{Now, Start, Ready, GiveUp}
use Rattle.waiters.specs.Calls.{Call, Handed, asks, called, is_ask}
use Rattle.waiters.specs.Delay.{IsDelay, cut_delay, drawn_delay, most_seconds}
use Rattle.waiters.specs.WalkCalls.{unanswered, unready}
use Rattle.waiters.specs.declared.timers.PollAnswer.TheVariants as poll
use Rattle.waiters.specs.declared.timers.WaiterCall.{WaiterCall}
use Rattle.waiters.specs.declared.timers.WaiterCall.TheVariants.{Timers, Word, Park, Poll}
use Rattle.outside_scripted.proofs.DeterminedLemmas.{wakes}
use Rattle.cli_wait.specs.declared.polls.PolledValue.{PolledValue}
use Rattle.cli_wait.specs.declared.scripted_timers.ScriptedTimers.{ScriptedTimers}
use Rattle.cli_wait.specs.Makes.{Makes, Ticks, due_of, dues}
use Rattle.cli_wait.specs.Walk.{Tells}

ticks : (old first second : ScriptedTimers) (call : TimersCall) → Ticks old call first → Ticks old call second → first ≡ second
ticks old first second (Now moment) one two = one.1 ∙ sym two.1
ticks old first second (Start nanos (Ok sleep)) one two = one.1 ∙ sym two.1
ticks old first second (Start nanos (Err refused)) one two = one ∙ sym two
ticks old first second (Ready sleep true) one two = one.1 ∙ sym two.1
ticks old first second (Ready sleep false) one two = one.1 ∙ sym two.1
ticks old first second (GiveUp sleep) one two = one ∙ sym two

-- one call leaves one state
pub moves : (old first second : ScriptedTimers) (call : WaiterCall) → Makes old call first → Makes old call second → first ≡ second
moves old first second (Timers call) one two = ticks old first second call one two
moves old first second (Word word) one two = one.1 ∙ sym two.1
moves old first second Park one two =
    let same = wakes old.moment (dues old) first.moment second.moment one.0 two.0 in
    one.1 ∙ (ap (λ m. record old { moment = m }) same ∙ sym two.1)
moves old first second (Poll number poll.Answered) one two = one.1 ∙ sym two.1
moves old first second (Poll number poll.Pending) one two = one.1 ∙ sym two.1
moves old first second (Poll number poll.OutOfMemory) one two = one ∙ sym two

-- a poll that is answered isn't pending
pub answered_once : (old first second : ScriptedTimers) (number : ℕ) → Makes old (Poll number poll.Pending) first → Makes old (Poll number poll.Answered) second → ⊥
answered_once old first second number pends comes =
    let early : old.moment < due_of old number = pends.0 in let late : due_of old number ≤ old.moment = comes.0 in omega (arith, early, late)

-- a sleep that is over doesn't go on
pub over_once : (old first second : ScriptedTimers) (sleep : ℕ) → Makes old (Timers (Ready sleep false)) first → Makes old (Timers (Ready sleep true)) second → ⊥
over_once old first second sleep waits over =
    let early : old.moment < sleep = waits.0 in let late : sleep ≤ old.moment = over.0 in omega (arith, early, late)

pub one_word : (old first second : ScriptedTimers) (word other : ℕ) → Makes old (Word word) first → Makes old (Word other) second → word ≡ other
one_word old first second word other one two = one.0 ∙ sym two.0

pub one_sleep : (old first second : ScriptedTimers) (delay sleep other : ℕ) → Makes old (Timers (Start delay (Ok (Some sleep)))) first → Makes old (Timers (Start delay (Ok (Some other)))) second → sleep ≡ other
one_sleep old first second delay sleep other one two = ap (λ o. unwrap_or o 0) (one.0 ∙ sym two.0)

-- a delay follows from its word
pub one_delay : (least greatest most attempt elapsed word one other : ℕ) → IsDelay least greatest most attempt elapsed word one → IsDelay least greatest most attempt elapsed word other → one ≡ other
one_delay least greatest most attempt elapsed word one other first second =
    let up = second.is_ceiling.greatest first.ceiling first.is_ceiling.within in
    let down = first.is_ceiling.greatest second.ceiling second.is_ceiling.within in
    let same : first.ceiling ≡ second.ceiling = omega (arith, up, down) in
    first.value ∙ (ap (λ c. cut_delay least (most - elapsed) (drawn_delay least (most_seconds least greatest c attempt) word)) same ∙ sym second.value)

-- a call over values of a script
abbrev pub Made : Type 0
Made = Call PolledValue PolledValue

-- these calls were made of scripted timers, one after another
abbrev pub Happened : ScriptedTimers → List Made → ScriptedTimers → Type 0
Happened = Handed Makes Tells

pub split : (calls more : List Made) (old new : ScriptedTimers) → Happened old (calls ++ more) new → (mid : ScriptedTimers) × Happened old calls mid × Happened mid more new
split [] more old new happened = (old, refl, happened)
split (call ∷ calls) more old new (next, takes, rest) =
    let parts = split calls more next new rest in (parts.0, (next, takes, parts.1), parts.2)

-- how many of these calls spend a unit of fuel
abbrev pub weight : List Made → ℕ
weight [] = 0
weight (call ∷ calls) = cond (is_ask call) 1 0 + weight calls

pub weight_is : (calls : List Made) → asks calls ≡ weight calls
weight_is [] = refl
weight_is (call ∷ calls) = sum_by-cons (λ one. cond (is_ask one) 1 0) call calls ∙ ap (λ n. cond (is_ask call) 1 0 + n) (weight_is calls)

pub weight-append : (calls more : List Made) → weight (calls ++ more) ≡ weight calls + weight more
weight-append [] more = omega arith
weight-append (call ∷ calls) more = let rest = weight-append calls more in omega (arith, rest)

pub weight-unanswered : (number times : ℕ) (more : List Made) → weight (unanswered number times ++ more) ≡ times + weight more
weight-unanswered number zero more = omega arith
weight-unanswered number (suc times) more = let rest = weight-unanswered number times more in omega (arith, rest)

pub weight-unready : (sleep times : ℕ) (more : List WaiterCall) → weight (map called (unready sleep times ++ more)) ≡ times + weight (map called more)
weight-unready sleep zero more = omega arith
weight-unready sleep (suc times) more = let rest = weight-unready sleep times more in omega (arith, rest)

-- Each `ready` call that answered no is counted.
use Rattle.std.specs.Prelude.{◌≡◌, ℕ, ◌+◌, ◌-◌, ◌^◌, ◌<◌, ◌≤◌, ◌==◌, Bool, true, false, if◌then◌else◌, Ok, Err}
use Rattle.std.proofs.Common.{sym, subst, ap, refl, add-one}
use Rattle.std.proofs.lemmas.Bool.{eqb-true}
use Rattle.std.proofs.Math.Nat.{le_refl, le-suc, not-suc-le_self}
use Rattle.smithy_types.specs.declared.timers.TimersCall.{TimersCall}
use Rattle.smithy_types.specs.declared.timers.TimersCall.TheVariants.{Now, Start, Ready, GiveUp}
use Rattle.waiters.specs.Count.{Counts}
use Rattle.waiters.specs.declared.timers.PollAnswer.TheVariants.{Answered, Pending, OutOfMemory}
use Rattle.waiters.specs.declared.timers.WaiterCall.{WaiterCall}
use Rattle.waiters.specs.declared.timers.WaiterCall.TheVariants.{Timers, Word, Park, Poll}
use Rattle.cli_wait.specs.declared.scripted_timers.ScriptedTimers.{ScriptedTimers}
use Rattle.cli_wait.specs.Makes.{Makes, Ticks}

-- a count and what it is with one more
one_more : (old : ℕ) (full : Bool) → (old == 2 ^ 64 - 1) ≡ full
    → (old ≤ (if full then old else old + 1)) × (old + 1 < 2 ^ 64 → (if full then old else old + 1) ≡ old + 1)
one_more old true full = (
  le_refl old,
  λ room. absurd (not-suc-le_self (2 ^ 64) (subst (λ n. n + 1 < 2 ^ 64) (eqb-true old (2 ^ 64 - 1) full) room)),
)
one_more old false none = (subst (λ n. old ≤ n) (sym (add-one old)) (le-suc old), λ room. refl)

-- of the calls of timers, one that learns that a sleep isn't over is counted, and no other
ticks : (old : ScriptedTimers) (call : TimersCall) (new : ScriptedTimers) → Ticks old call new
    → Counts old.unready (Timers call) new.unready
ticks old (Now moment) new made = ap (λ (t : ScriptedTimers). t.unready) made.1
ticks old (Start nanos (Ok sleep)) new made = ap (λ (t : ScriptedTimers). t.unready) made.1
ticks old (Start nanos (Err error)) new made = ap (λ (t : ScriptedTimers). t.unready) made
ticks old (Ready sleep true) new made = ap (λ (t : ScriptedTimers). t.unready) made.1
ticks old (Ready sleep false) new made =
    subst (λ n. (old.unready ≤ n) × (old.unready + 1 < 2 ^ 64 → n ≡ old.unready + 1))
    (sym (ap (λ (t : ScriptedTimers). t.unready) made.1))
    (one_more old.unready (old.unready == 2 ^ 64 - 1) refl)
ticks old (GiveUp sleep) new made = ap (λ (t : ScriptedTimers). t.unready) made

-- and nothing else
pub each_unready_is_counted : (old : ScriptedTimers) (call : WaiterCall) (new : ScriptedTimers) → Makes old call new
    → Counts old.unready call new.unready
each_unready_is_counted old (Timers call) new made = ticks old call new made
each_unready_is_counted old (Word word) new made = ap (λ (t : ScriptedTimers). t.unready) made.1
each_unready_is_counted old Park new made = ap (λ (t : ScriptedTimers). t.unready) made.1
each_unready_is_counted old (Poll number Answered) new made = ap (λ (t : ScriptedTimers). t.unready) made.1
each_unready_is_counted old (Poll number Pending) new made = ap (λ (t : ScriptedTimers). t.unready) made.1
each_unready_is_counted old (Poll number OutOfMemory) new made = ap (λ (t : ScriptedTimers). t.unready) made

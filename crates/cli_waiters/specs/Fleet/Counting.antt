-- Each wait is counted.
use Rattle.std.specs.Prelude.{◌≡◌, ℕ, ◌+◌, ◌-◌, ◌^◌, ◌<◌, ◌≤◌, ◌==◌, Bool, true, false, None, Some, if◌then◌else◌, Ok}
use Rattle.std.specs.Prelude.{Err}
use Rattle.std.proofs.Common.{sym, subst, ap, refl, add-one}
use Rattle.std.proofs.lemmas.Bool.{eqb-true}
use Rattle.std.proofs.Math.Nat.{add-zero, le_refl, le-suc, not-suc-le_self}
use Rattle.smithy_types.specs.declared.timers.TimersCall.{TimersCall}
use Rattle.smithy_types.specs.declared.timers.TimersCall.TheVariants.{Now, Start, Ready, GiveUp}
use Rattle.waiters.specs.Count as unready
use Rattle.waiters.specs.declared.timers.PollAnswer.TheVariants as told
use Rattle.waiters.specs.declared.timers.WaiterCall.{WaiterCall}
use Rattle.waiters.specs.declared.timers.WaiterCall.TheVariants.{Timers, Word, Park, Poll}
use Rattle.waiter_fleet.specs.Calls.{Counts, FleetCall, drew, is_poll, parked, polled, timed, waiter_call}
use Rattle.cli_waiters.specs.Fleet.Makes.{Does, Makes, Ticks, counted}
use Rattle.cli_waiters.specs.declared.fleet.scripted_fleet.ScriptedFleet.{ScriptedFleet}

-- a count and what it is with one more
one_more : (old : ℕ) (full : Bool) → (old == 2 ^ 64 - 1) ≡ full →
    (old ≤ (if full then old else old + 1)) × (old + 1 < 2 ^ 64 → (if full then old else old + 1) ≡ old + 1)
one_more old true full = (
  le_refl old,
  λ room. absurd (not-suc-le_self (2 ^ 64) (subst (λ n. n + 1 < 2 ^ 64) (eqb-true old (2 ^ 64 - 1) full) room)),
)
one_more old false none = (subst (λ n. old ≤ n) (sym (add-one old)) (le-suc old), λ room. refl)

-- what a count is, by what it is equal to
counts_one : (old new : ℕ) → new ≡ counted old → (old ≤ new) × (old + 1 < 2 ^ 64 → new ≡ old + 1)
counts_one old new is =
    subst (λ n. (old ≤ n) × (old + 1 < 2 ^ 64 → n ≡ old + 1)) (sym is) (one_more old (old == 2 ^ 64 - 1) refl)

-- a count that stays has counted nothing
counts_none : (old new : ℕ) → new ≡ old → (old ≤ new) × (old + 0 < 2 ^ 64 → new ≡ old + 0)
counts_none old new is =
    subst (λ n. (old ≤ n) × (old + 0 < 2 ^ 64 → n ≡ old + 0)) (sym is) (le_refl old, λ room. sym (add-zero old))

-- of the calls of timers, one that learns that a sleep isn't over is counted, and no other
ticks : (old : ScriptedFleet) (call : TimersCall) (new : ScriptedFleet) → Ticks old call new
    → unready.Counts old.unready (Timers call) new.unready
ticks old (Now moment) new made = ap (λ (w : ScriptedFleet). w.unready) made.1
ticks old (Start nanos (Ok sleep)) new made = ap (λ (w : ScriptedFleet). w.unready) made.1
ticks old (Start nanos (Err refused)) new made = ap (λ (w : ScriptedFleet). w.unready) made
ticks old (Ready sleep true) new made = ap (λ (w : ScriptedFleet). w.unready) made.1
ticks old (Ready sleep false) new made =
    counts_one old.unready new.unready (ap (λ (w : ScriptedFleet). w.unready) made.1)
ticks old (GiveUp sleep) new made = ap (λ (w : ScriptedFleet). w.unready) made

-- each `ready` call that answered no, and nothing else
pub each_unready_is_counted : (old : ScriptedFleet) (call : WaiterCall) (new : ScriptedFleet) → Makes old call new →
    unready.Counts old.unready call new.unready
each_unready_is_counted old (Timers call) new made = ticks old call new made
each_unready_is_counted old (Word word) new made = ap (λ (w : ScriptedFleet). w.unready) made.1
each_unready_is_counted old Park new made = ap (λ (w : ScriptedFleet). w.unready) made.1
each_unready_is_counted old (Poll waiter told.Answered) new made = ap (λ (w : ScriptedFleet). w.unready) made.1
each_unready_is_counted old (Poll waiter told.Pending) new made = ap (λ (w : ScriptedFleet). w.unready) made.1
each_unready_is_counted old (Poll waiter told.OutOfMemory) new made = ap (λ (w : ScriptedFleet). w.unready) made

-- each poll that had no answer too, and nothing else
pub each_wait_is_counted : (old : ScriptedFleet) (call : FleetCall) (new : ScriptedFleet) → Does old call new
    → Counts old.waits call new.waits
each_wait_is_counted old (timed (Now moment)) new done =
    counts_none old.waits new.waits (ap (λ (w : ScriptedFleet). w.waits) done.1)
each_wait_is_counted old (timed (Start nanos (Ok sleep))) new done =
    counts_none old.waits new.waits (ap (λ (w : ScriptedFleet). w.waits) done.1)
each_wait_is_counted old (timed (Start nanos (Err refused))) new done =
    counts_none old.waits new.waits (ap (λ (w : ScriptedFleet). w.waits) done)
each_wait_is_counted old (timed (Ready sleep true)) new done =
    counts_none old.waits new.waits (ap (λ (w : ScriptedFleet). w.waits) done.1)
each_wait_is_counted old (timed (Ready sleep false)) new done =
    counts_one old.waits new.waits (ap (λ (w : ScriptedFleet). w.waits) done.1)
each_wait_is_counted old (timed (GiveUp sleep)) new done =
    counts_none old.waits new.waits (ap (λ (w : ScriptedFleet). w.waits) done)
each_wait_is_counted old (drew word) new done =
    counts_none old.waits new.waits (ap (λ (w : ScriptedFleet). w.waits) done.1)
each_wait_is_counted old parked new done = counts_none old.waits new.waits (ap (λ (w : ScriptedFleet). w.waits) done.1)
each_wait_is_counted old (polled waiter (Ok (Some found))) new done =
    counts_none old.waits new.waits (ap (λ (w : ScriptedFleet). w.waits) done.1.1)
each_wait_is_counted old (polled waiter (Ok None)) new done =
    counts_one old.waits new.waits (ap (λ (w : ScriptedFleet). w.waits) done.1)
each_wait_is_counted old (polled waiter (Err refused)) new done =
    counts_none old.waits new.waits (ap (λ (w : ScriptedFleet). w.waits) done)

-- holds where this is true
abbrev Stands : Bool → Type 0
Stands true = Unit {0}
Stands false = ⊥

-- true and false differ
true_not_false : true ≡ false → ⊥
true_not_false same = subst Stands same tt

-- the calls of the timers are calls of the fleet,
pub does_made : (old : ScriptedFleet) (call : FleetCall) (new : ScriptedFleet) → is_poll call ≡ false
    → Makes old (waiter_call call) new → Does old call new
does_made old (polled waiter found) new is made = absurd (true_not_false is)
does_made old (timed call) new is made = made
does_made old (drew word) new is made = made
does_made old parked new is made = made

-- and each call of the fleet is one of the timers
pub makes_done : (old : ScriptedFleet) (call : FleetCall) (new : ScriptedFleet) → Does old call new
    → Makes old (waiter_call call) new
makes_done old (polled waiter (Ok (Some found))) new done = done.1
makes_done old (polled waiter (Ok None)) new done = done
makes_done old (polled waiter (Err refused)) new done = done
makes_done old (timed call) new done = done
makes_done old (drew word) new done = done
makes_done old parked new done = done

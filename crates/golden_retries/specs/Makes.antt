-- What a call makes of the two counts of a scripted world.
use Rattle.std.specs.Prelude.{ℕ, ◌≡◌, true, false, Bool}
use Rattle.std.proofs.Common.{subst}
use Rattle.waiters.specs.declared.timers.WaiterCall.{WaiterCall}
use Rattle.waiters.specs.declared.timers.WaiterCall.TheVariants.{Timers, Word, Park, Poll}
use Rattle.waiters.specs.Count as unready
use Rattle.waiter_fleet.specs.Calls.{Counts, FleetCall, is_poll, drew, parked, polled, timed, waiter_call}

-- how many sleeps weren't over, and how many asks in all had no answer
abbrev pub MakesWaits : ℕ → WaiterCall → ℕ → Type 0
MakesWaits old (Timers call) new = Counts old (timed call) new
MakesWaits old (Word word) new = Counts old (drew word) new
MakesWaits old Park new = Counts old parked new
MakesWaits old (Poll number _) new = Unit {0}

pub record Makes (old_unready old_waits : ℕ) (call : WaiterCall) (new_unready new_waits : ℕ) : Type 0 where
  pub unready : unready.Counts old_unready call new_unready
  pub waits : MakesWaits old_waits call new_waits

pub record Does (old_unready old_waits : ℕ) (call : FleetCall) (new_unready new_waits : ℕ) : Type 0 where
  pub unready : unready.Counts old_unready (waiter_call call) new_unready
  pub waits : Counts old_waits call new_waits

abbrev Stands : Bool → Type 0
Stands true = Unit {0}
Stands false = ⊥

true_not_false : true ≡ false → ⊥
true_not_false same = subst Stands same tt

pub does_made : (old_unready old_waits : ℕ) (call : FleetCall) (new_unready new_waits : ℕ) → is_poll call ≡ false →
    Makes old_unready old_waits (waiter_call call) new_unready new_waits → Does old_unready old_waits call new_unready new_waits
does_made old_unready old_waits (polled number found) new_unready new_waits is made = absurd (true_not_false is)
does_made old_unready old_waits (timed call) new_unready new_waits is made = record { unready = made.unready; waits = made.waits }
does_made old_unready old_waits (drew word) new_unready new_waits is made = record { unready = made.unready; waits = made.waits }
does_made old_unready old_waits parked new_unready new_waits is made = record { unready = made.unready; waits = made.waits }

waits_made : (old : ℕ) (call : FleetCall) (new : ℕ) → Counts old call new → MakesWaits old (waiter_call call) new
waits_made old (polled number found) new counts = tt
waits_made old (timed call) new counts = counts
waits_made old (drew word) new counts = counts
waits_made old parked new counts = counts

pub makes_done : (old_unready old_waits : ℕ) (call : FleetCall) (new_unready new_waits : ℕ) →
    Does old_unready old_waits call new_unready new_waits → Makes old_unready old_waits (waiter_call call) new_unready new_waits
makes_done old_unready old_waits call new_unready new_waits done = record { unready = done.unready; waits = waits_made old_waits call new_waits done.waits }

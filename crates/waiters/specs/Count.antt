-- The count of `ready` calls that answered no.
use Rattle.std.specs.Prelude.{◌≡◌, ℕ, ◌+◌, ◌^◌, ◌≤◌, ◌<◌, true, false}
use Rattle.smithy_types.specs.declared.timers.TimersCall.TheVariants.{Now, Start, Ready, GiveUp}
use Rattle.waiters.specs.declared.timers.WaiterCall.{WaiterCall}
use Rattle.waiters.specs.declared.timers.WaiterCall.TheVariants.{Timers, Word, Park, Poll}

-- what a call makes of the count
abbrev pub Counts : ℕ → WaiterCall → ℕ → Type 0
-- one more `ready` that answered no, as long as the count has room
Counts old (Timers (Ready sleep false)) new = (old ≤ new) × (old + 1 < 2 ^ 64 → new ≡ old + 1)
Counts old (Timers (Ready sleep true)) new = new ≡ old
Counts old (Timers (Now moment)) new = new ≡ old
Counts old (Timers (Start nanos sleep)) new = new ≡ old
Counts old (Timers (GiveUp sleep)) new = new ≡ old
Counts old (Word word) new = new ≡ old
Counts old Park new = new ≡ old
Counts old (Poll number told) new = new ≡ old

-- What a call makes of scripted waiters.
use Rattle.std.specs.Prelude.{◌≡◌, ℕ, ◌+◌, ◌-◌, ◌^◌, ◌==◌, ◌<◌, ◌≤◌, true, false, if◌then◌else◌, min, List, [], ◌∷◌}
use Rattle.std.specs.Prelude.{◌++◌, Option, None, Some, Ok, Err, slice_get, unwrap_or}
use Rattle.std.proofs.Common.{set}
use Rattle.smithy_types.specs.declared.timers.TimersCall.{TimersCall}
use Rattle.smithy_types.specs.declared.timers.TimersCall.TheVariants.{Now, Start, Ready, GiveUp}
use Rattle.waiters.specs.declared.timers.PollAnswer.TheVariants as told
use Rattle.waiters.specs.declared.timers.WaiterCall.{WaiterCall}
use Rattle.waiters.specs.declared.timers.WaiterCall.TheVariants.{Timers, Word, Park, Poll}
use Rattle.outside_scripted.specs.Sleeps.{without}
use Rattle.outside_scripted.specs.Time.{later}
use Rattle.outside_scripted.specs.Wake.{Wakes}
use Rattle.outside_scripted.specs.Words.{next_word, words_after}
use Rattle.cli_wait.specs.Polls.{nanos_of}
use Rattle.cli_wait.specs.declared.polls.ScriptedPoll.{ScriptedPoll}
use Rattle.waiter_fleet.specs.Calls.{FleetCall, drew, parked, polled, timed}
use Rattle.cli_waiters.specs.Fleet.Waiters.{first_place, next_poll, open_dues, told_by}
use Rattle.cli_waiters.specs.declared.fleet.scripted_fleet.ScriptedFleet.{ScriptedFleet}
use Rattle.cli_waiters.specs.declared.fleet.places.Place.{Place}

-- one more, as far as the count has room
abbrev pub counted : ℕ → ℕ
counted count = if count == 2 ^ 64 - 1 then count else count + 1

-- The clock stands still. A sleep is over at the moment that is its number, and open until a call
-- learns so or it is given up.
abbrev pub Ticks : ScriptedFleet → TimersCall → ScriptedFleet → Type 0
Ticks old (Now moment) new = (moment ≡ old.moment) × (new ≡ old)
Ticks old (Start nanos (Ok sleep)) new =
    (sleep ≡ Some (later old.moment nanos)) × (new ≡ record old { sleeps = old.sleeps ++ later old.moment nanos ∷ [] })
Ticks old (Start nanos (Err refused)) new = new ≡ old
Ticks old (Ready sleep true) new = (sleep ≤ old.moment) × (new ≡ record old { sleeps = without sleep old.sleeps })
Ticks old (Ready sleep false) new =
    (old.moment < sleep) × (new ≡ record old { unready = counted old.unready; waits = counted old.waits })
Ticks old (GiveUp sleep) new = new ≡ record old { sleeps = without sleep old.sleeps }

-- how far the polls of a waiter have come
abbrev pub place_of : ScriptedFleet → ℕ → Place
place_of world waiter = unwrap_or (slice_get world.places waiter) first_place

-- the poll that a waiter is asked for next
abbrev pub poll_of : ScriptedFleet → ℕ → Option ScriptedPoll
poll_of world waiter = next_poll (slice_get world.waiters waiter) (place_of world waiter)

-- when it is due, if it is asked now for the first time
abbrev pub opened_due : ScriptedFleet → ℕ → ℕ
opened_due world waiter = later world.moment (nanos_of (poll_of world waiter))

-- when it is due, also if it was asked before
abbrev pub due_of : ScriptedFleet → ℕ → ℕ
due_of world waiter = unwrap_or (place_of world waiter).due (opened_due world waiter)

-- it is there
abbrev pub IsDue : ScriptedFleet → ℕ → Type 0
IsDue world waiter = due_of world waiter ≤ world.moment

-- the polls of a waiter have come to this place
abbrev pub put : ℕ → Place → ScriptedFleet → ScriptedFleet
put waiter place world = record world { places = set world.places waiter place }

-- the next poll of a waiter isn't there yet, and is open from then on
abbrev pub Waits : ScriptedFleet → ℕ → ScriptedFleet → Type 0
Waits old waiter new =
    (old.moment < due_of old waiter)
    × (new ≡ record (put waiter (record { number = (place_of old waiter).number; due = Some (due_of old waiter) }) old)
    { waits = counted old.waits })

-- it was answered
abbrev pub passed : ℕ → ScriptedFleet → ScriptedFleet
passed waiter old = put waiter (record { number = min ((place_of old waiter).number + 1) (2 ^ 32 - 1); due = None }) old

-- when each thing that is open is due
abbrev pub dues : ScriptedFleet → List ℕ
dues old = old.sleeps ++ open_dues old.places

-- one call, with what it answered
abbrev pub Makes : ScriptedFleet → WaiterCall → ScriptedFleet → Type 0
Makes old (Timers call) new = Ticks old call new
Makes old (Word word) new = (word ≡ next_word old.words) × (new ≡ record old { words = words_after old.words })
Makes old Park new = Wakes old.moment (dues old) new.moment × (new ≡ record old { moment = new.moment })
Makes old (Poll waiter told.Answered) new = IsDue old waiter × (new ≡ passed waiter old)
Makes old (Poll waiter told.Pending) new = Waits old waiter new
Makes old (Poll waiter told.OutOfMemory) new = new ≡ old

-- the same call of a fleet: a poll that is answered answers what the script says
abbrev pub Does : ScriptedFleet → FleetCall → ScriptedFleet → Type 0
Does old (timed call) new = Makes old (Timers call) new
Does old (drew word) new = Makes old (Word word) new
Does old parked new = Makes old Park new
Does old (polled waiter (Ok (Some found))) new =
    (found ≡ told_by (poll_of old waiter)) × Makes old (Poll waiter told.Answered) new
Does old (polled waiter (Ok None)) new = Makes old (Poll waiter told.Pending) new
Does old (polled waiter (Err refused)) new = Makes old (Poll waiter told.OutOfMemory) new

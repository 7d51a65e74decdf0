-- What a call makes of scripted timers.
use Rattle.std.specs.Prelude.{◌≡◌, ℕ, ◌+◌, ◌-◌, ◌^◌, ◌==◌, ◌<◌, ◌≤◌, true, false, if◌then◌else◌, List, [], ◌∷◌, ◌++◌}
use Rattle.std.specs.Prelude.{None, Some, Ok, Err, option_to_list, unwrap_or}
use Rattle.smithy_types.specs.declared.timers.TimersCall.{TimersCall}
use Rattle.smithy_types.specs.declared.timers.TimersCall.TheVariants.{Now, Start, Ready, GiveUp}
use Rattle.waiters.specs.declared.timers.PollAnswer.TheVariants.{Answered, Pending, OutOfMemory}
use Rattle.waiters.specs.declared.timers.WaiterCall.{WaiterCall}
use Rattle.waiters.specs.declared.timers.WaiterCall.TheVariants.{Timers, Word, Park, Poll}
use Rattle.outside_scripted.specs.Sleeps.{without}
use Rattle.outside_scripted.specs.Time.{later}
use Rattle.outside_scripted.specs.Wake.{Wakes}
use Rattle.outside_scripted.specs.Words.{next_word, words_after}
use Rattle.cli_wait.specs.declared.notes.Note.TheVariants as note
use Rattle.cli_wait.specs.declared.scripted_timers.ScriptedTimers.{ScriptedTimers}
use Rattle.cli_wait.specs.Polls.{nanos_of, poll_at}

-- one `ready` call more answered no, as far as the count has room
abbrev pub counted : ℕ → ℕ
counted unready = if unready == 2 ^ 64 - 1 then unready else unready + 1

-- The clock stands still. A started sleep is noted. It is over at the moment that is its number,
-- and open until a call learns so or it is given up.
abbrev pub Ticks : ScriptedTimers → TimersCall → ScriptedTimers → Type 0
Ticks old (Now moment) new = (moment ≡ old.moment) × (new ≡ old)
Ticks old (Start nanos (Ok sleep)) new =
    (sleep ≡ Some (later old.moment nanos))
    × (new ≡ record old {
      sleeps = old.sleeps ++ later old.moment nanos ∷ [];
      notes = old.notes ++ note.Sleep nanos ∷ [];
    })
Ticks old (Start nanos (Err error)) new = new ≡ old
Ticks old (Ready sleep true) new = (sleep ≤ old.moment) × (new ≡ record old { sleeps = without sleep old.sleeps })
Ticks old (Ready sleep false) new = (old.moment < sleep) × (new ≡ record old { unready = counted old.unready })
Ticks old (GiveUp sleep) new = new ≡ record old { sleeps = without sleep old.sleeps }

-- when the poll of this number is due, if it is asked now for the first time
abbrev pub opened_due : ScriptedTimers → ℕ → ℕ
opened_due timers number = later timers.moment (nanos_of (poll_at timers.polls number))

-- when it is due, also if it was asked before
abbrev pub due_of : ScriptedTimers → ℕ → ℕ
due_of timers number = unwrap_or timers.poll_due (opened_due timers number)

-- the poll of this number is there
abbrev pub IsDue : ScriptedTimers → ℕ → Type 0
IsDue timers number = due_of timers number ≤ timers.moment

-- the poll of this number isn't there yet, and is open from then on
abbrev pub Waits : ScriptedTimers → ℕ → ScriptedTimers → Type 0
Waits old number new = (old.moment < due_of old number) × (new ≡ record old { poll_due = Some (due_of old number) })

-- the timers after the poll of this number was answered, which is noted with the moment
abbrev pub answered : ℕ → ScriptedTimers → ScriptedTimers
answered number old = record old { poll_due = None; notes = old.notes ++ note.Poll number old.moment ∷ [] }

-- when each thing that is open is due
abbrev pub dues : ScriptedTimers → List ℕ
dues old = old.sleeps ++ option_to_list old.poll_due

-- one call, with what it answered
abbrev pub Makes : ScriptedTimers → WaiterCall → ScriptedTimers → Type 0
Makes old (Timers call) new = Ticks old call new
Makes old (Word word) new = (word ≡ next_word old.words) × (new ≡ record old { words = words_after old.words })
Makes old Park new = Wakes old.moment (dues old) new.moment × (new ≡ record old { moment = new.moment })
Makes old (Poll number Answered) new = IsDue old number × (new ≡ answered number old)
Makes old (Poll number Pending) new = Waits old number new
Makes old (Poll number OutOfMemory) new = new ≡ old

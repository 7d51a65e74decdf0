-- The print of a waiter.
use Rattle.std.specs.Prelude.{ℕ, List, [], ◌∷◌, ◌++◌, codes}
use Rattle.json_forms.specs.Prints.{row, num}
use Rattle.serde_json.specs.Data.{Data, string}
use Rattle.serde_json.specs.Written.{compact_text}
use Rattle.json_values.specs.Values.{payload_data}
use Rattle.cli_wait.specs.declared.notes.Note.{Note}
use Rattle.cli_wait.specs.declared.notes.Note.TheVariants.{Poll, Sleep}
use Rattle.cli_wait.specs.declared.ending.WaitEnding.{WaitEnding}
use Rattle.cli_wait.specs.declared.ending.WaitEnding.TheVariants as endings

-- a line of a print: the compact text of the data and a line feed
abbrev pub line : Data → List ℕ
line d = compact_text d ++ 10 ∷ []

-- a poll with its number and moment, or a sleep with its nanoseconds
unfoldable pub note_data : Note → Data
note_data (Poll number moment) = row (string (codes "poll") ∷ num number ∷ num moment ∷ [])
note_data (Sleep nanos) = row (string (codes "sleep") ∷ num nanos ∷ [])

-- a line for each note
unfoldable pub notes_text : List Note → List ℕ
notes_text [] = []
notes_text (note ∷ notes) = line (note_data note) ++ notes_text notes

-- a word alone
abbrev pub word_data : List ℕ → Data
word_data word = row (string word ∷ [])

-- the longest wait, what had elapsed, and how many polls were made
abbrev pub exceeded_data : ℕ → ℕ → ℕ → Data
exceeded_data max_wait elapsed poll_count =
    row (string (codes "ExceededMaxWait") ∷ num max_wait ∷ num elapsed ∷ num poll_count ∷ [])

-- how the waiter ended
unfoldable pub ending_data : WaitEnding → Data
ending_data (endings.Output payload) = row (string (codes "Ok") ∷ payload_data payload ∷ [])
ending_data (endings.Service payload) = row (string (codes "Service") ∷ payload_data payload ∷ [])
ending_data endings.OperationFailed = word_data (codes "OperationFailed")
ending_data endings.FailureState = word_data (codes "FailureState")
ending_data (endings.ExceededMaxWait max_wait elapsed poll_count) = exceeded_data max_wait elapsed poll_count
ending_data endings.Unfinished = word_data (codes "Unfinished")

-- the lines of the notes, and then that of the ending
unfoldable pub wait_text : List Note → WaitEnding → List ℕ
wait_text notes ending = notes_text notes ++ line (ending_data ending)

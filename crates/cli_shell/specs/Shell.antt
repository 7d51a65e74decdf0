-- What the shell does with what a command says. One table for every command.
use Rattle.std.specs.Prelude.{ℕ, ◌≡◌, ◌⊎◌, List, Result, Ok, Err}
use Rattle.smithy_types.specs.declared.memory.OutOfMemory.{OutOfMemory}
use Rattle.cli_shell.specs.Said.{Said, prints, refuses, said}
use Rattle.cli_shell.specs.Sink.{SinkView, Adds, AddsFront}
use Rattle.cli_shell.specs.Source.{SourceView, Rose}
use Rattle.cli_shell.specs.Streams.{IsRead, Unread}
use Rattle.cli_shell.specs.declared.command.Answer.{Answer}
use Rattle.cli_shell.specs.declared.status.PrintStatus.{PrintStatus}
use Rattle.cli_shell.specs.declared.status.ShellStatus.TheVariants as shells
use Rattle.cli_shell.specs.declared.status.Ended.{Ended}
use Rattle.cli_shell.specs.declared.status.Ended.TheVariants.{Printed, Refused, Shell}

-- What each status says of what the command said and of what was written.
abbrev pub Gives : {K : Type 0} → (K → SinkView) → (Said → Type 0) → Ended → K → K → Type 0
Gives view tells (Printed outcome) old new =
    (text : List ℕ) × tells (prints outcome text) × Adds (view old) text (view new)
Gives view tells (Refused refusal) old new = tells (refuses refusal) × (new ≡ old)
Gives view tells (Shell shells.WriteFault) old new =
    (outcome : PrintStatus) × (text : List ℕ) × tells (prints outcome text) × AddsFront (view old) text (view new)
    × Rose (view old).faults (view new).faults
Gives view tells (Shell shells.OutOfMemory) old new = new ≡ old
Gives view tells (Shell shells.BadWords) old new = ⊥
Gives view tells (Shell shells.ReadFault) old new = ⊥
Gives view tells (Shell shells.LongInput) old new = ⊥

-- The input was not read to its end, and nothing was written.
abbrev pub GivesUp : {K : Type 0} → Ended → SourceView → SourceView → K → K → Type 0
GivesUp (Shell status) before after old new = Unread status before after × (new ≡ old)
GivesUp (Printed outcome) before after old new = ⊥
GivesUp (Refused refusal) before after old new = ⊥

-- A command that reads: its input was not read, or this was it and the command said so.
abbrev pub Served : {K : Type 0} → (K → SinkView) → (List ℕ → Said → Type 0) → Ended → SourceView → SourceView → K → K
    → Type 0
Served view says status before after old new =
    GivesUp status before after old new
    ⊎ ((bytes : List ℕ) × IsRead before bytes after × Gives view (says bytes) status old new)

-- what was answered, unless there was no memory for it
abbrev pub IsAnswered : Result Answer OutOfMemory → Said → Type 0
IsAnswered (Ok answer) s = s ≡ said answer
IsAnswered (Err error) s = ⊥

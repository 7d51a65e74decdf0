-- What was answered to the bytes is what the command says of them.
use Rattle.std.proofs.Common.{◌≡◌, ℕ, List, Option, None, Some, Result, Ok, Err, subst, sym}
use Rattle.std.specs.Prelude.{IfOk, IfSome}
use Rattle.smithy_types.specs.declared.memory.OutOfMemory.{OutOfMemory}
use Rattle.cli_shell.specs.Said.{Said, prints, refuses, said}
use Rattle.cli_shell.specs.Shell.{Gives, IsAnswered}
use Rattle.cli_shell.specs.Sink.{SinkView}
use Rattle.cli_shell.specs.Source.{SourceView}
use Rattle.cli_shell.specs.Streams.{IsRead}
use Rattle.cli_shell.specs.declared.command.Answer.{Answer}
use Rattle.cli_shell.specs.declared.status.Ended.{Ended}
use Rattle.cli_shell.specs.declared.status.Ended.TheVariants.{Printed, Refused, Shell}
use Rattle.cli_shell.specs.declared.status.ShellStatus.TheVariants as shells
use Rattle.cli_replay.specs.LeftOver.{ReadLeft, TellsLeft, tells_left}
use Rattle.cli_replay.specs.Script.Replay.{IsScript}
use Rattle.cli_replay.specs.declared.left_over.LeftOver.{LeftOver}
use Rattle.cli_replay.specs.declared.script.replay.Script.{Script}

carried : (says : Said → Type 0) (answer : Result Answer OutOfMemory) (s : Said) → IfOk answer (λ a. says (said a)) → IsAnswered answer s → says s
carried says (Ok a) s h e = subst says (sym e) h
carried says (Err error) s h e = absurd e

-- what is given of what was answered is given of what the command says
pub given_by : {K : Type 0} (view : K → SinkView) (says : Said → Type 0) (answer : Result Answer OutOfMemory) (ended : Ended) (old new : K) → IfOk answer (λ a. says (said a)) → Gives view (IsAnswered answer) ended old new → Gives view says ended old new
given_by view says answer (Printed outcome) old new h (text, e, adds) = (text, carried says answer (prints outcome text) h e, adds)
given_by view says answer (Refused refusal) old new h (e, same) = (carried says answer (refuses refusal) h e, same)
given_by view says answer (Shell shells.WriteFault) old new h (outcome, text, e, front, rose) = (outcome, text, carried says answer (prints outcome text) h e, front, rose)
given_by view says answer (Shell shells.OutOfMemory) old new h g = g
given_by view says answer (Shell shells.BadWords) old new h g = g
given_by view says answer (Shell shells.ReadFault) old new h g = g
given_by view says answer (Shell shells.LongInput) old new h g = g

some_is_none : (l : LeftOver) → Some l ≡ None → ⊥
some_is_none l h = absurd (cc)

-- what is told beside what is said is told of a script
script_left : (bytes : List ℕ) (x : Said) (l : LeftOver) → tells_left bytes x (Some l) → (s : Script) × IsScript bytes s × TellsLeft s (Some l)
script_left bytes (prints outcome text) l h = h
script_left bytes (refuses refusal) l h = absurd (some_is_none l h)

pub read_left : (bytes : List ℕ) (x : Said) (told : Option LeftOver) (before after : SourceView) → IsRead before bytes after → tells_left bytes x told → IfSome told (λ l. ReadLeft before after l)
read_left bytes x None before after r h = tt
read_left bytes x (Some l) before after r h = let told = script_left bytes x l h in (bytes, r, told.0, told.1, told.2)

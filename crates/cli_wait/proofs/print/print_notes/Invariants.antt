use Rattle.std.proofs.Common.{◌≡◌, ◌++◌, drop}
use Rattle.cli_wait.specs.Print.{notes_text}
use Rattle.cli_wait.proofs.print.print_notes.Given as goal

abbrev pub invariant-loop-note : goal.invariant-loop-note
invariant-loop-note l = l.out.items ++ notes_text (drop l.note-index l.notes) ≡ l.initial.out.items ++ notes_text l.notes

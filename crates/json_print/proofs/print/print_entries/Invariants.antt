use Rattle.std.proofs.Common.{◌≡◌, ◌++◌, drop}
use Rattle.json_print.specs.Print.{entries_text}
use Rattle.json_print.proofs.Readable.{AreFine}
use Rattle.json_print.proofs.print.print_entries.Given as goal

abbrev pub invariant-loop-entry : goal.invariant-loop-entry
invariant-loop-entry l = (l.out.items ++ entries_text l.number (drop l.entry-index l.entries) ≡ l.initial.out.items ++ entries_text 1 l.entries) × (AreFine l.number (drop l.entry-index l.entries) → AreFine 1 l.entries)

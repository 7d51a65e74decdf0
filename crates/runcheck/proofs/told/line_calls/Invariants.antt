use Rattle.std.proofs.Common.{◌≡◌, drop}
use Rattle.json_forms.proofs.ReadLists.{behind}
use Rattle.runcheck.specs.Told.{call_at}
use Rattle.runcheck.proofs.LineByLine.{each_line}
use Rattle.runcheck.proofs.told.line_calls.Given as goal

abbrev pub invariant-loop-line : goal.invariant-loop-line
invariant-loop-line l = behind l.calls (each_line call_at (drop l.line-index l.lines)) ≡ each_line call_at l.lines

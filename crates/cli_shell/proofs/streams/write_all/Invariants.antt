use Rattle.std.proofs.Common.{◌≤◌, length}
use Rattle.cli_shell.proofs.Pieces.{Gone}
use Rattle.cli_shell.proofs.streams.write_all.Given as goal

abbrev pub invariant-loop-rest : goal.invariant-loop-rest
invariant-loop-rest g l = ((g.K.Sink.view l.initial.sink).faults ≤ (g.K.Sink.view l.sink).faults) × Gone (g.K.Sink.view l.initial.sink) l.text l.rest (g.K.Sink.view l.sink)

abbrev pub decreases-loop-rest : goal.decreases-loop-rest
decreases-loop-rest g l = length l.rest

use Rattle.std.proofs.Common.{map, vec_len}
use Rattle.cli_fleet.proofs.Playing.{ReadySo}
use Rattle.cli_fleet.proofs.play.callers_of.Given as goal

-- those before this one are ready
abbrev pub invariant-loop-caller : goal.invariant-loop-caller
invariant-loop-caller g l = ReadySo l.start l.words l.yielded l.number (vec_len l.callers) (map (λ c. c.state) l.callers.items)

use Rattle.std.proofs.Common.{map}
use Rattle.cli_fleet.proofs.Printing.{ToldSo}
use Rattle.cli_fleet.proofs.print.print_callers.Given as goal

-- those before this one are printed
abbrev pub invariant-loop-caller : goal.invariant-loop-caller
invariant-loop-caller g l = ToldSo (map (λ c. c.state) l.yielded) l.number l.fn.out.items l.out.items l.came

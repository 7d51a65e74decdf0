use Rattle.std.proofs.Common.{sym, arith}
use Rattle.cli_commands.proofs.program.program.Goals as goal

pub returns-clause-ran : goal.returns-clause-ran
returns-clause-ran g c =
    let ran = c.run_noted-status.ensures.ran in
    (ran.0, ran.1, (rw (sym c.new-source.ensures, sym c.new-sink.ensures) ran.2.0, omega arith, omega arith))

use Rattle.cli_waiters.proofs.fleet.Steady.{scripts-are-steady}
use Rattle.cli_waiters.proofs.fleet.laws.answers_are_determined.Goals as goal

pub returns : goal.returns
returns c = scripts-are-steady

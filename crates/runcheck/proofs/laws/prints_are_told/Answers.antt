use Rattle.runcheck.proofs.ToldPrints.{print_told}
use Rattle.runcheck.proofs.laws.prints_are_told.Goals as goal

pub returns : goal.returns
returns c = print_told

use Rattle.json_print.proofs.determined.Endings.{one_ending}
use Rattle.json_print.proofs.determined.endings_are_determined.Goals as goal

pub returns : goal.returns
returns c = one_ending

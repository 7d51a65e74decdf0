use Rattle.runcheck.proofs.Ended.{whole_reached}
use Rattle.runcheck.proofs.laws.whole_runs_are_reached.Goals as goal

pub returns : goal.returns
returns c = whole_reached

use Rattle.runcheck.proofs.Ended.{ended_reached, unfinished_not}
use Rattle.runcheck.proofs.laws.runs_of_operations_are_reached.Goals as goal

pub returns-clause-ended : goal.returns-clause-ended
returns-clause-ended c = ended_reached

pub returns-clause-unfinished : goal.returns-clause-unfinished
returns-clause-unfinished c = unfinished_not

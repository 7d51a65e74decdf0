use Rattle.orchestrate.proofs.Standings.{stands_begins_run}
use Rattle.orchestrate.proofs.laws.standing_begins_a_run.Goals as goal

pub returns : goal.returns
returns c = stands_begins_run

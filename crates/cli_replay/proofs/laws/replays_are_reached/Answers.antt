use Rattle.cli_replay.proofs.Reached.{replays_checked, replays_reached}
use Rattle.cli_replay.proofs.laws.replays_are_reached.Goals as goal

pub returns-clause-reached : goal.returns-clause-reached
returns-clause-reached c = replays_reached

pub returns-clause-checked : goal.returns-clause-checked
returns-clause-checked c = replays_checked

use Rattle.cli_replay.proofs.Determined.{each_script_is_replayed}
use Rattle.cli_replay.proofs.laws.scripts_are_replayed.Goals as goal

pub returns : goal.returns
returns g c = each_script_is_replayed g.K.Sink.view

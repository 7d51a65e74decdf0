use Rattle.cli_shell.proofs.Determined.{one_status, one_text}
use Rattle.cli_replay.specs.Replay.{replay_says}
use Rattle.cli_replay.proofs.Determined.{replay_once}
use Rattle.cli_replay.proofs.laws.replays_are_determined.Goals as goal

pub returns-clause-status : goal.returns-clause-status
returns-clause-status g c = one_status g.K.Sink.view replay_says replay_once

pub returns-clause-text : goal.returns-clause-text
returns-clause-text g c = one_text g.K.Sink.view replay_says replay_once

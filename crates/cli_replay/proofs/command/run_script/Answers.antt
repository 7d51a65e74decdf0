use Rattle.cli_replay.proofs.Spelling.{taken_if_ended}
use Rattle.cli_replay.proofs.command.run_script.Goals as goal

pub returns-clause-takes : goal.returns-clause-takes
returns-clause-takes c = taken_if_ended c.run_over.result c.args.world.now c.run_over.new.world c.run_over.ensures.related

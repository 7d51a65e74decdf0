use Rattle.laws_program.proofs.scripts.ReplayScripts.{replay_scripts_plain}
use Rattle.laws_program.proofs.scripts.laws.a_float_spells_no_script_of_replay.Goals as goal

pub returns : goal.returns
returns c = replay_scripts_plain

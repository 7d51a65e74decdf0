use Rattle.laws_program.proofs.scripts.WaitersScripts.{waiters_scripts_plain}
use Rattle.laws_program.proofs.scripts.laws.a_float_spells_no_script_of_waiters.Goals as goal

pub returns : goal.returns
returns c = waiters_scripts_plain

use Rattle.laws_program.proofs.scripts.WaitScripts.{wait_scripts_plain}
use Rattle.laws_program.proofs.scripts.laws.a_float_spells_no_script_of_wait.Goals as goal

pub returns : goal.returns
returns c = wait_scripts_plain

use Rattle.laws_program.proofs.client_scripts.ClientScripts.{client_scripts_plain}
use Rattle.laws_program.proofs.client_scripts.laws.a_float_spells_no_script_of_client.Goals as goal

pub returns : goal.returns
returns c = client_scripts_plain

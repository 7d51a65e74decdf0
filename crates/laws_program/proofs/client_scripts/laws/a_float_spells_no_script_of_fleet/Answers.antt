use Rattle.laws_program.proofs.client_scripts.FleetScripts.{fleet_scripts_plain}
use Rattle.laws_program.proofs.client_scripts.laws.a_float_spells_no_script_of_fleet.Goals as goal

pub returns : goal.returns
returns c = fleet_scripts_plain

use Rattle.json_forms.specs.View.{view}
use Rattle.json_scripts.proofs.fleet.Placed.{placed_reading}
use Rattle.json_scripts.proofs.fleet.script.read_fleet_script.Goals as goal

pub returns-clause-placed : goal.returns-clause-placed
returns-clause-placed c = placed_reading c.script_in.result (view c.in_ok-value.value) c.script_in.ensures

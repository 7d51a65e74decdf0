use Rattle.std.proofs.Common.{◌≡◌, map, take}
use Rattle.json_forms.specs.JsonData.{items_in}
use Rattle.json_values.specs.Values.{layer_entry_data}
use Rattle.json_values.proofs.setting.print_layer.Given as goal

abbrev pub invariant-loop-entry : goal.invariant-loop-entry
invariant-loop-entry l = items_in l.row ≡ map layer_entry_data (take l.entry-index l.entries)

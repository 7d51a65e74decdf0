use Rattle.std.proofs.Common.{◌≡◌, map, take}
use Rattle.serde_json.specs.Data.{string}
use Rattle.json_forms.specs.JsonData.{items_in}
use Rattle.json_forms.proofs.forms.print_texts.Given as goal

abbrev pub invariant-loop-text : goal.invariant-loop-text
invariant-loop-text l = items_in l.row ≡ map string (take l.text-index l.items)

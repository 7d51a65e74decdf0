use Rattle.std.proofs.Common.{◌≡◌, map, take, drop, true}
use Rattle.std.specs.List.{list_all}
use Rattle.serde_json.specs.View.{view}
use Rattle.json_payloads.proofs.lists.print_items.Given as goal

abbrev pub invariant-loop-item : goal.invariant-loop-item
invariant-loop-item g l =
    (map view l.values.items ≡ map (g.T.JsonForm.form).prints (take l.item-index l.items))
    × (list_all (g.T.JsonForm.form).fits (drop l.item-index l.items) ≡ true → list_all (g.T.JsonForm.form).fits l.items ≡ true)

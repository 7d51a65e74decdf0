use Rattle.std.proofs.Common.{◌≡◌, drop}
use Rattle.json_forms.specs.View.{items_view}
use Rattle.json_forms.specs.Lists.{list_of}
use Rattle.json_forms.proofs.ReadLists.{behind}
use Rattle.cli_serve.specs.Description.{rule_at}
use Rattle.cli_serve.proofs.description.rule_items.Given as goal

abbrev pub invariant-loop-value : goal.invariant-loop-value
invariant-loop-value l = behind l.list (list_of rule_at (items_view (drop l.value-index l.items))) ≡ list_of rule_at (items_view l.items)

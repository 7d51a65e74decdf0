use Rattle.std.proofs.Common.{◌≡◌, drop}
use Rattle.serde_json.specs.Find.{as_str}
use Rattle.json_forms.specs.View.{items_view}
use Rattle.json_forms.specs.Lists.{list_of}
use Rattle.json_forms.proofs.ReadLists.{behind}
use Rattle.json_forms.proofs.forms.text_items.Given as goal

abbrev pub invariant-loop-value : goal.invariant-loop-value
invariant-loop-value l = behind l.list (list_of as_str (items_view (drop l.value-index l.items))) ≡ list_of as_str (items_view l.items)

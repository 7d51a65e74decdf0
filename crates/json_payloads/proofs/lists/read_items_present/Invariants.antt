use Rattle.std.proofs.Common.{◌≡◌, drop}
use Rattle.serde_json.specs.View.{items_view}
use Rattle.json_payloads.specs.Forms.{present_at}
use Rattle.json_payloads.specs.Lists.{list_of}
use Rattle.json_payloads.proofs.ReadLists.{behind}
use Rattle.json_payloads.proofs.lists.read_items_present.Given as goal

abbrev pub invariant-loop-value : goal.invariant-loop-value
invariant-loop-value g l = behind l.list (list_of (present_at g.T.JsonForm.form) (items_view (drop l.value-index l.items))) ≡ list_of (present_at g.T.JsonForm.form) (items_view l.items)

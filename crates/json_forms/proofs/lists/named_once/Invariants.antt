use Rattle.std.proofs.Common.{◌≡◌, drop}
use Rattle.json_forms.specs.View.{items_view}
use Rattle.json_forms.specs.Lists.{list_of}
use Rattle.json_forms.specs.Lists.{name_at, named_once}
use Rattle.json_forms.proofs.Fresh.{fresh_then}
use Rattle.json_forms.proofs.lists.named_once.Given as goal

abbrev pub invariant-loop-value : goal.invariant-loop-value
invariant-loop-value l = fresh_then l.names (list_of name_at (items_view (drop l.value-index l.items))) ≡ named_once (items_view l.items)

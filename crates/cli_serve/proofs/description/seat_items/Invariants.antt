use Rattle.std.proofs.Common.{◌≡◌, drop}
use Rattle.json_forms.specs.View.{items_view}
use Rattle.json_forms.specs.Lists.{list_of}
use Rattle.json_forms.proofs.ReadLists.{behind}
use Rattle.cli_serve.specs.Description.{seat_at}
use Rattle.cli_serve.proofs.description.seat_items.Given as goal

abbrev pub invariant-loop-value : goal.invariant-loop-value
invariant-loop-value l =
    behind l.list (list_of (seat_at l.buckets) (items_view (drop l.value-index l.items)))
    ≡ list_of (seat_at l.buckets) (items_view l.items)

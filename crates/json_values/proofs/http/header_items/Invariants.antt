use Rattle.std.proofs.Common.{◌≡◌, ◌-◌, drop}
use Rattle.json_forms.specs.View.{items_view}
use Rattle.json_forms.specs.Lists.{list_of}
use Rattle.json_values.specs.Readings.{header_at, header_items}
use Rattle.json_values.proofs.HeaderReading.{headers_behind}
use Rattle.json_values.proofs.http.header_items.Given as goal

abbrev pub invariant-loop-index : goal.invariant-loop-index
invariant-loop-index l = headers_behind l.map (24576 - l.index) (list_of header_at (items_view (drop l.index l.items))) ≡ header_items (items_view l.items)

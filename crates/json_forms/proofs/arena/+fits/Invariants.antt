use Rattle.std.proofs.Common.{◌≡◌, true, drop}
use Rattle.json.specs.Value.{items_view, members_view}
use Rattle.json_forms.specs.Bytes.{all_of_bytes, each_of_bytes}
use Rattle.json_forms.specs.View.{items_in_range, members_in_range}
use Rattle.json_forms.proofs.arena.+fits.Given as goal

abbrev pub invariant-items_fit-loop-item : goal.invariant-items_fit-loop-item
invariant-items_fit-loop-item l =
    (items_in_range (items_view (drop l.item-index l.item-items)) ≡ items_in_range (items_view l.item-items))
    × (all_of_bytes (items_view (drop l.item-index l.item-items)) ≡ true → all_of_bytes (items_view l.item-items) ≡ true)

abbrev pub invariant-members_fit-loop-member : goal.invariant-members_fit-loop-member
invariant-members_fit-loop-member l =
    (members_in_range (members_view (drop l.member-index l.member-items)) ≡ members_in_range (members_view l.member-items))
    × (each_of_bytes (members_view (drop l.member-index l.member-items)) ≡ true → each_of_bytes (members_view l.member-items) ≡ true)

use Rattle.std.proofs.Common.{◌≡◌, map, drop}
use Rattle.json.specs.Value.{members_view}
use Rattle.json_scripts.specs.Members.{is_among}
use Rattle.json_scripts.proofs.EachNamed.{each_is}
use Rattle.json_scripts.proofs.members.all_among.Given as goal

abbrev pub invariant-loop-member : goal.invariant-loop-member
invariant-loop-member l =
    each_is (is_among (map (λ n. n.now) l.fn.names)) (members_view (drop l.member-index l.members)) ≡ each_is (is_among (map (λ n. n.now) l.fn.names)) (members_view l.members)

use Rattle.std.proofs.Common.{drop}
use Rattle.json_forms.specs.View.{members_view}
use Rattle.json_forms.proofs.Counting.{Counts}
use Rattle.json_forms.proofs.members.has_members.Given as goal

abbrev pub invariant-loop-member : goal.invariant-loop-member
invariant-loop-member l = Counts l.names.items (drop l.member-index l.members) (members_view l.members) l.count

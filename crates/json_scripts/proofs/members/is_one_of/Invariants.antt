use Rattle.std.proofs.Common.{◌≡◌, drop}
use Rattle.std.specs.List.{list_any}
use Rattle.json_scripts.specs.Members.{is_name}
use Rattle.json_scripts.proofs.members.is_one_of.Given as goal

abbrev pub invariant-loop-name : goal.invariant-loop-name
invariant-loop-name l = list_any (λ n. is_name n.now l.fn.word) (drop l.name-index l.names) ≡ list_any (λ n. is_name n.now l.fn.word) l.names

use Rattle.std.proofs.Common.{◌≡◌, map, true}
use Rattle.std.specs.List.{list_all}
use Rattle.serde_json.specs.Data.{no_members}
use Rattle.json_payloads.specs.Making.{members_in}
use Rattle.json_payloads.specs.Maps.{entry_of, entry_fits, put_all}
use Rattle.json_payloads.proofs.maps.print_entries.Given as goal

abbrev pub invariant-loop-key : goal.invariant-loop-key
invariant-loop-key g l =
    (put_all (g.T.JsonForm.form).prints (map entry_of l.key-iterator) (members_in l.object) ≡ put_all (g.T.JsonForm.form).prints (map entry_of l.entries.entries) no_members)
    × (list_all (entry_fits (g.T.JsonForm.form).fits) (map entry_of l.key-iterator) ≡ true → list_all (entry_fits (g.T.JsonForm.form).fits) (map entry_of l.entries.entries) ≡ true)

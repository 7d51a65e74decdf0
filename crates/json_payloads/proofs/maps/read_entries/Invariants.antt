use Rattle.std.proofs.Common.{◌≡◌, []}
use Rattle.serde_json.specs.View.{members_view}
use Rattle.json_payloads.specs.Maps.{gather}
use Rattle.json_payloads.proofs.maps.read_entries.Given as goal

abbrev pub invariant-loop-key : goal.invariant-loop-key
invariant-loop-key g l = gather (g.T.JsonForm.form).reads (members_view l.key-iterator) l.found ≡ gather (g.T.JsonForm.form).reads (members_view l.members.entries) []

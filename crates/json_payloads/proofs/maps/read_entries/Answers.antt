use Rattle.std.proofs.Common.{List, ap, ◌∙◌, ℕ}
use Rattle.std.specs.BTreeMap.{insert_entry}
use Rattle.serde_json.specs.View.{members_view}
use Rattle.json_payloads.specs.Maps.{gather, key_cmp}
use Rattle.json_payloads.proofs.Entries.{gather_more, gather_fail}
use Rattle.json_payloads.proofs.maps.read_entries.Goals as goal

pub loop-key-preserved : goal.loop-key-preserved
loop-key-preserved g c =
    let f = (g.T.JsonForm.form).reads in
    ap (gather f (members_view c.next.new.self)) (c.in_ok-insert-in-Ok.ensures ∙ ap (λ (k : List ℕ). insert_entry key_cmp c.loop-key.found k c.in-Ok.item) c.as_str.ensures.value)
    ∙ gather_more f c.loop-key.key-iterator c.next.new.self (c.in-Some.key.now, c.in-Some.value.now) c.loop-key.found c.in-Ok.item c.in-Some.ensures.steps c.in-Ok.ensures
    ∙ c.loop-key.invariant

pub returns-in-Err : goal.returns-in-Err
returns-in-Err g c =
    gather_fail (g.T.JsonForm.form).reads c.in-Err.error c.loop-key.key-iterator c.next.new.self (c.in-Some.key.now, c.in-Some.value.now) c.loop-key.found _ c.in-Some.ensures.steps c.loop-key.invariant c.in-Err.ensures

use Rattle.std.proofs.Common.{ap, map, ◌∙◌}
use Rattle.json_values.specs.Values.{header_data, headers_data}
use Rattle.json_print.proofs.RowText.{under_way, one_more, all_written}
use Rattle.json_print.proofs.parts.write_header_map.Goals as goal

pub loop-name-init : goal.loop-name-init
loop-name-init c = under_way (ap (map header_data) (c.into_iter-name-iterator.ensures.into_iter_gives ∙ c.iter-name-items.ensures.value)) c.in_ok-push.ensures.items

pub loop-name-preserved : goal.loop-name-preserved
unfolding header_data
loop-name-preserved c =
    one_more c.loop-name.invariant (rw (c.in-Some.ensures.steps, c.as_str.ensures.value, c.as_bytes.ensures.value)) c.in_ok-write_comma_if.ensures c.in_ok-write_header.ensures

pub returns : goal.returns
unfolding headers_data
returns c = all_written c.loop-name.invariant (ap (map header_data) c.in-None.ensures.steps.0) c.in_ok-push-2.ensures.items

use Rattle.json_values.specs.Values.{payload_data}
use Rattle.json_print.proofs.RowText.{begun_end, begun_first, begun_more}
use Rattle.json_print.proofs.parts.write_payload.Goals as goal

pub returns : goal.returns
unfolding payload_data
returns c =
    begun_end (begun_more (begun_first c.in_ok-push.ensures.items c.in_ok-write_number.ensures) c.in_ok-push-2.ensures.items c.in_ok-write_blob.ensures) c.in_ok-push-3.ensures.items

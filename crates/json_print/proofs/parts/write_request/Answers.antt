use Rattle.json_values.specs.Values.{request_data}
use Rattle.json_print.proofs.RowText.{begun_end, begun_first, begun_more}
use Rattle.json_print.proofs.parts.write_request.Goals as goal

pub returns : goal.returns
unfolding request_data
returns c =
    begun_end (begun_more (begun_more (begun_more (begun_first c.in_ok-push.ensures.items (rw c.as_str.ensures at c.in_ok-write_text.ensures)) c.in_ok-push-2.ensures.items (rw c.as_str-2.ensures at c.in_ok-write_text-2.ensures)) c.in_ok-push-3.ensures.items c.in_ok-write_headers.ensures) c.in_ok-push-4.ensures.items c.in_ok-write_body.ensures) c.in_ok-push-5.ensures.items

use Rattle.json_print.proofs.RowText.{begun_end, begun_first, begun_more}
use Rattle.json_print.proofs.parts.write_header.Goals as goal

pub returns : goal.returns
returns c =
    begun_end (begun_more (begun_first c.in_ok-push.ensures.items c.in_ok-write_text.ensures) c.in_ok-push-2.ensures.items c.in_ok-write_bytes.ensures) c.in_ok-push-3.ensures.items

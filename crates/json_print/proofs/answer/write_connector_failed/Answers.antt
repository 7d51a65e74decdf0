use Rattle.json_print.proofs.RowText.{begun_end, begun_more, begun_tagged}
use Rattle.json_print.proofs.answer.write_connector_failed.Goals as goal

pub returns : goal.returns
returns c =
    begun_end (begun_more (begun_tagged c.in_ok-begin_tagged.ensures c.in_ok-write_connector_kind.ensures) c.in_ok-push.ensures.items (rw c.as_str.ensures at c.in_ok-write_text.ensures)) c.in_ok-push-2.ensures.items

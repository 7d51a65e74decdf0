use Rattle.std.proofs.Common.{arith, refl}
use Rattle.serde_json.specs.Data.{string}
use Rattle.json_print.proofs.RowText.{under_way, one_more, all_written, item_next, items_end}
use Rattle.json_print.proofs.forms.write_texts.Goals as goal

pub loop-text-init : goal.loop-text-init
loop-text-init c = under_way refl c.in_ok-push.ensures.items

pub loop-text-preserved : goal.loop-text-preserved
loop-text-preserved c =
    one_more c.loop-text.invariant (item_next string c.loop-text.text-index c.as_slice-items.result.now c.text-item.result c.as_str.result.now (omega arith) c.text-item.is c.as_str.ensures)
    c.in_ok-write_comma_if.ensures c.in_ok-write_text.ensures

pub returns : goal.returns
returns c =
    rw c.as_slice-items.ensures at (all_written c.loop-text.invariant (items_end string c.loop-text.text-index c.as_slice-items.result.now (omega arith)) c.in_ok-push-2.ensures.items)

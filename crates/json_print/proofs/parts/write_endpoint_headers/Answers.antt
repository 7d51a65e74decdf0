use Rattle.std.proofs.Common.{arith, refl}
use Rattle.json_values.specs.Values.{endpoint_header_data}
use Rattle.json_print.proofs.RowText.{under_way, one_more, all_written, item_next, items_end}
use Rattle.json_print.proofs.parts.write_endpoint_headers.Goals as goal

pub loop-header-init : goal.loop-header-init
loop-header-init c = under_way refl c.in_ok-push.ensures.items

pub loop-header-preserved : goal.loop-header-preserved
loop-header-preserved c =
    one_more c.loop-header.invariant (item_next endpoint_header_data c.loop-header.header-index c.args.headers.now c.header-item.result c.header-item.result (omega arith) c.header-item.is refl)
    c.in_ok-write_comma_if.ensures c.in_ok-write_endpoint_header.ensures

pub returns : goal.returns
returns c = all_written c.loop-header.invariant (items_end endpoint_header_data c.loop-header.header-index c.args.headers.now (omega arith)) c.in_ok-push-2.ensures.items

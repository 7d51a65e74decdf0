use Rattle.std.proofs.Common.{arith}
use Rattle.json_print.proofs.RowText.{escaped_all, escaped_more, escaped_none}
use Rattle.json_print.proofs.forms.write_escaped.Goals as goal

pub loop-byte-init : goal.loop-byte-init
loop-byte-init c = escaped_none c.args.out.now.items c.args.bytes.now

pub loop-byte-preserved : goal.loop-byte-preserved
loop-byte-preserved c = escaped_more c.args.bytes.now c.loop-byte.byte-index _ _ _ (omega arith) c.in_ok-write_byte.ensures c.loop-byte.invariant

pub returns : goal.returns
returns c = escaped_all c.args.bytes.now c.loop-byte.byte-index _ _ (omega arith) c.loop-byte.invariant

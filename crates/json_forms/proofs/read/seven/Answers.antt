use Rattle.std.proofs.Common.{arith}
use Rattle.json_forms.proofs.OtherLength.{seven_items}
use Rattle.json_forms.proofs.read.seven.Goals as goal

pub returns : goal.returns
returns c =
    seven_items c.args.items.now c.index-items-0.result c.index-items-1.result c.index-items-2.result c.index-items-3.result c.index-items-4.result c.index-items-5.result c.index-items-6.result
    (omega arith) c.index-items-0.is c.index-items-1.is c.index-items-2.is c.index-items-3.is c.index-items-4.is c.index-items-5.is c.index-items-6.is

use Rattle.std.proofs.Common.{arith}
use Rattle.json_print.proofs.Depths.{begin_nests}
use Rattle.json_print.proofs.Readable.{readable_as}
use Rattle.json_print.proofs.print.write_begin.Goals as goal

pub returns-clause-readable : goal.returns-clause-readable
returns-clause-readable c = readable_as _ _ 3 c.in_ok-json.ensures (begin_nests c.args.head.now) (omega arith) c.in_ok-write.ensures.readable

use Rattle.std.proofs.Common.{arith}
use Rattle.json_print.proofs.Depths.{ending_nests}
use Rattle.json_print.proofs.Readable.{readable_as}
use Rattle.json_print.proofs.print.write_ending.Goals as goal

pub returns-clause-readable : goal.returns-clause-readable
returns-clause-readable c = readable_as _ _ 5 c.in_ok-json.ensures (ending_nests c.args.ending.now) (omega arith) c.in_ok-write.ensures.readable

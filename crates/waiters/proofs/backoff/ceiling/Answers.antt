use Rattle.std.proofs.Common.{arith}
use Rattle.waiters.proofs.Ceiling.{is_ceiling-log}
use Rattle.waiters.proofs.backoff.ceiling.Goals as goal

pub returns-clause-value : goal.returns-clause-value
returns-clause-value c =
    is_ceiling-log c.args.min c.args.max c.ilog2.result (omega arith) c.ilog2.ensures.power_le c.ilog2.ensures.next_power_gt

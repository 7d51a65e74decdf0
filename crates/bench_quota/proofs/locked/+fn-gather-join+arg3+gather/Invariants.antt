use Rattle.std.proofs.Common.{◌-◌}
use Rattle.bench_quota.proofs.locked.+fn-gather-join+arg3+gather.Given as goal

abbrev pub decreases-join+arg3 : goal.decreases-join+arg3
decreases-join+arg3 g l = l.callers - 1

abbrev pub decreases-gather : goal.decreases-gather
decreases-gather g l = l.callers

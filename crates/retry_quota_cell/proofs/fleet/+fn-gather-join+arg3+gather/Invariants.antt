use Rattle.std.proofs.Common.{vec_len}
use Rattle.retry_quota_cell.proofs.fleet.+fn-gather-join+arg3+gather.Given as goal

abbrev pub decreases-join+arg3 : goal.decreases-join+arg3
decreases-join+arg3 g l = vec_len l.callers

abbrev pub decreases-gather : goal.decreases-gather
decreases-gather g l = vec_len l.callers

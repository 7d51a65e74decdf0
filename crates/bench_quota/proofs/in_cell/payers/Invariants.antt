use Rattle.std.proofs.Common.{◌≤◌, ◌-◌, vec_len}
use Rattle.bench_quota.proofs.in_cell.payers.Given as goal

abbrev pub invariant-loop-load : goal.invariant-loop-load
invariant-loop-load l = vec_len l.payers ≤ l.load.callers

abbrev pub decreases-loop-load : goal.decreases-loop-load
decreases-loop-load l = l.load.callers - vec_len l.payers

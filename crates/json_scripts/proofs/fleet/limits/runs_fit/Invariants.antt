use Rattle.std.proofs.Common.{◌≡◌, ◌+◌, sum_by, drop}
use Rattle.json_scripts.specs.Fleet.Limits.{caller_runs}
use Rattle.json_scripts.proofs.fleet.limits.runs_fit.Given as goal

abbrev pub invariant-loop-caller : goal.invariant-loop-caller
invariant-loop-caller l = l.room + sum_by caller_runs l.callers ≡ 10000 + sum_by caller_runs (drop l.caller-index l.callers)

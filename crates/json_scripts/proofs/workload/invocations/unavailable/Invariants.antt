use Rattle.std.proofs.Common.{◌≡◌}
use Rattle.json_scripts.specs.Workload.Made.{unavailable}
use Rattle.json_scripts.proofs.workload.invocations.unavailable.Given as goal

-- so many were made
abbrev pub invariant-loop-made : goal.invariant-loop-made
invariant-loop-made l = l.responses ≡ unavailable l._made

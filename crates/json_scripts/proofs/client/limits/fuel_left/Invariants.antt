use Rattle.std.proofs.Common.{◌≡◌, ◌+◌, sum_by, drop}
use Rattle.json_scripts.specs.Client.Limits.{fuel_of}
use Rattle.json_scripts.proofs.client.limits.fuel_left.Given as goal

abbrev pub invariant-loop-invocation : goal.invariant-loop-invocation
invariant-loop-invocation l = l.left + sum_by fuel_of l.invocations ≡ l.room + sum_by fuel_of (drop l.invocation-index l.invocations)

use Rattle.std.proofs.Common.{◌≡◌, ◌+◌, sum_by, drop}
use Rattle.json_scripts.specs.Fleet.Limits.{caller_fuel}
use Rattle.json_scripts.proofs.fleet.limits.fuel_fits.Given as goal

abbrev pub invariant-loop-caller : goal.invariant-loop-caller
invariant-loop-caller l = l.room + sum_by caller_fuel l.callers ≡ 100000 + sum_by caller_fuel (drop l.caller-index l.callers)

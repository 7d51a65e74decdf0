use Rattle.std.proofs.Common.{◌≡◌, ◌-◌, ◌^◌, min, take}
use Rattle.cli_client_runs.specs.Running.{loads_in}
use Rattle.cli_client_runs.proofs.set.ClientSet.loads.Given as goal

-- the loads of the clients before this one
abbrev pub invariant-loop-client : goal.invariant-loop-client
invariant-loop-client g l = l.loads ≡ min (loads_in (take l.client-index l.client-items)) (2 ^ 64 - 1)

use Rattle.std.proofs.Common.{◌≡◌, map, take}
use Rattle.cli_waiters.proofs.fleet.waiter.plans_of.Given as goal

abbrev pub invariant-loop-waiter : goal.invariant-loop-waiter
invariant-loop-waiter l = l.plans.items ≡ map (λ w. w.plan) (take l.waiter-index l.waiters)

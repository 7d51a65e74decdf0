-- The plans of a script.
use Rattle.std.proofs.Common.{◌≡◌, ℕ, zero, suc, List, [], ◌∷◌, Some, true, subst, sym}
use Rattle.std.proofs.lemmas.Bool.{and_parts}
use Rattle.cli_waiters.specs.Fleet.Waiters.{plans_of}
use Rattle.cli_waiters.specs.declared.fleet.waiter.ScriptedWaiter.{ScriptedWaiter}
use Rattle.waiter_fleet.specs.Plans.{AllGood, is_good}
use Rattle.waiter_fleet.specs.declared.plan.Plan.{Plan}
use Rattle.cli_waiters.specs.Script.Script.{are_good}

same_some : (one other : Plan) → Some one ≡ Some other → one ≡ other
same_some one other is = cc

pub all_good : (waiters : List ScriptedWaiter) → are_good waiters ≡ true → AllGood (plans_of waiters)
all_good [] good k plan got = absurd (cc got)
all_good (waiter ∷ waiters) good zero plan got =
    subst (λ p. is_good p ≡ true) (same_some waiter.plan plan got) (and_parts (is_good waiter.plan) (are_good waiters) good).0
all_good (waiter ∷ waiters) good (suc k) plan got = all_good waiters (and_parts (is_good waiter.plan) (are_good waiters) good).1 k plan got

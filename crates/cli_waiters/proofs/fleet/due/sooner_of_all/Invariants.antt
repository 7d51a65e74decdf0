use Rattle.std.proofs.Common.{ℕ, List, ◌++◌, take}
use Rattle.outside_scripted.specs.Wake.{IsNext}
use Rattle.cli_waiters.specs.Fleet.Waiters.{open_dues}
use Rattle.cli_waiters.proofs.fleet.due.sooner_of_all.Given as goal

-- the least with those so far
abbrev pub invariant-loop-place : goal.invariant-loop-place
invariant-loop-place l = (dues : List ℕ) → IsNext l.moment dues l.fn.next → IsNext l.moment (dues ++ open_dues (take l.place-index l.places)) l.least

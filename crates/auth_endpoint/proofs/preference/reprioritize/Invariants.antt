use Rattle.std.proofs.Common.{drop}
use Rattle.auth_endpoint.proofs.PreferenceLemmas.{IsOrdered}
use Rattle.auth_endpoint.proofs.preference.reprioritize.Given as goal

-- the options are ordered by the names so far
abbrev pub invariant-loop-place : goal.invariant-loop-place
invariant-loop-place l = IsOrdered l.names l.fn.options (drop l.place l.names) l.options.items

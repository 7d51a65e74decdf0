use Rattle.std.proofs.Common.{drop}
use Rattle.auth_endpoint.specs.Endpoint.{with_value, RefusesValue}
use Rattle.auth_endpoint.proofs.WalkLemmas.{IsWalked}
use Rattle.auth_endpoint.proofs.headers.append_values.Given as goal

-- the values so far are put in
abbrev pub invariant-loop-value : goal.invariant-loop-value
invariant-loop-value l = IsWalked (with_value l.name) (RefusesValue l.name) l.fn.map l.map l.values (drop l.value-index l.values)

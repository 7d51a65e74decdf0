use Rattle.std.proofs.Common.{drop}
use Rattle.auth_endpoint.specs.Endpoint.{with_header, RefusesHeader}
use Rattle.auth_endpoint.proofs.WalkLemmas.{IsWalked}
use Rattle.auth_endpoint.proofs.headers.set_headers.Given as goal

-- the headers so far are set
abbrev pub invariant-loop-header : goal.invariant-loop-header
invariant-loop-header l = IsWalked with_header RefusesHeader l.headers l.map l.added (drop l.header-index l.added)

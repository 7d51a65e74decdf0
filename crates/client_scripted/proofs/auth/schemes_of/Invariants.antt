use Rattle.std.proofs.Common.{◌≡◌, map}
use Rattle.client_scripted.specs.Parts.{scheme_of_id}
use Rattle.client_scripted.proofs.auth.schemes_of.Given as goal

-- the schemes of the ids so far
abbrev pub invariant-loop-id : goal.invariant-loop-id
invariant-loop-id l = l.list ≡ map (scheme_of_id l.http_schemes) l.yielded

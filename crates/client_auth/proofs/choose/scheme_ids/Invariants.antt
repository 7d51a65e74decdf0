use Rattle.std.proofs.Common.{◌≡◌, map, take}
use Rattle.client_auth.proofs.choose.scheme_ids.Given as goal

-- the ids of those before the index
abbrev pub invariant-loop-scheme : goal.invariant-loop-scheme
invariant-loop-scheme g l = l.ids ≡ map g.A.AuthScheme.names (take l.scheme-index l.schemes)

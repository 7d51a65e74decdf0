use Rattle.std.proofs.Common.{◌≡◌, map, take}
use Rattle.client_auth.proofs.sources.source_ids.Given as goal

-- the ids of those before the index
abbrev pub invariant-loop-registered : goal.invariant-loop-registered
invariant-loop-registered g l = l.ids ≡ map (λ s. s.id) (take l.registered-index l.sources)

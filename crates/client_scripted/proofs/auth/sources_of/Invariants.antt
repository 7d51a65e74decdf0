use Rattle.std.proofs.Common.{◌≡◌, map, take}
use Rattle.client_scripted.specs.Parts.{source_of}
use Rattle.client_scripted.proofs.auth.sources_of.Given as goal

-- the sources of those before the index
abbrev pub invariant-loop-identity : goal.invariant-loop-identity
invariant-loop-identity l = l.list ≡ map source_of (take l.identity-index l.identities)

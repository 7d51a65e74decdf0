use Rattle.std.proofs.Common.{◌≡◌, take}
use Rattle.cli_client.specs.Opening.{quota_of}
use Rattle.cli_client.proofs.opening.open_quota.Given as goal

-- the buckets before this one
abbrev pub invariant-loop-one : goal.invariant-loop-one
invariant-loop-one l = l.quota ≡ quota_of (take l.one-index l.terms)

use Rattle.std.proofs.Common.{◌≡◌, ◌+◌}
use Rattle.stream_guard.specs.Bin.{Shifted}
use Rattle.stream_guard.proofs.ring.BinRing.push_bins.Given as goal

-- the bins moved on by as many places as there were turns, one step each
abbrev pub invariant-loop-pushed : goal.invariant-loop-pushed
invariant-loop-pushed g l = record { moved : Shifted l._pushed l.fn.self l.self; counted : l.steps ≡ l.fn.steps + l._pushed }

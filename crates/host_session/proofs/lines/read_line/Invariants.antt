use Rattle.std.proofs.Common.{◌≡◌, ◌-◌, ◌≤◌, vec_len}
use Rattle.host_session.proofs.NextLine.{Came}
use Rattle.host_session.proofs.lines.read_line.Given as goal

-- what came so far has no line feed
abbrev pub invariant-loop-alloc : goal.invariant-loop-alloc
invariant-loop-alloc g l = (vec_len l.buffer ≡ 4096) × ((g.S.Source.view l.initial.source).faults ≤ (g.S.Source.view l.source).faults)
    × Came (g.S.Source.view l.initial.source) l.initial.line.items l.line.items (g.S.Source.view l.source)

abbrev pub decreases-loop-alloc : goal.decreases-loop-alloc
decreases-loop-alloc g l = 16777217 - vec_len l.line

use Rattle.std.proofs.Common.{◌≡◌, ◌-◌, ◌≤◌, vec_len}
use Rattle.std.specs.Io.KnownBytes.{Consumes}
use Rattle.cli_shell.proofs.streams.read_all.Given as goal

abbrev pub invariant-loop-bytes : goal.invariant-loop-bytes
invariant-loop-bytes g l = (vec_len l.buffer ≡ 65536) × (vec_len l.bytes ≤ 16777217) × ((g.S.Source.view l.initial.source).faults ≤ (g.S.Source.view l.source).faults)
    × Consumes (g.S.Source.view l.initial.source).left (g.S.Source.view l.source).left l.bytes.items

abbrev pub decreases-loop-bytes : goal.decreases-loop-bytes
decreases-loop-bytes g l = 16777217 - vec_len l.bytes

use Rattle.std.proofs.Common.{arith}
use Rattle.stream_guard.proofs.ShiftLemmas.{shifted_more}
use Rattle.stream_guard.proofs.ring.BinRing.push_bins.Goals as goal

pub loop-pushed-preserved : goal.loop-pushed-preserved
loop-pushed-preserved g c = record {
  moved = shifted_more c.loop-pushed._pushed c.args.self.now c.loop-pushed.self c.push_bin.new.self c.loop-pushed.invariant.moved c.push_bin.ensures.moved;
  counted = omega arith;
}

use Rattle.std.proofs.Common.{length}
use Rattle.cli_client.proofs.Markings.{MarkedSo}
use Rattle.cli_client.proofs.marks.with_moments.Given as goal

-- the lines before the rest are marked
abbrev pub invariant-loop-line : goal.invariant-loop-line
invariant-loop-line l = MarkedSo l.fn.print l.out.items l.rest

abbrev pub decreases-loop-line : goal.decreases-loop-line
decreases-loop-line l = length l.rest

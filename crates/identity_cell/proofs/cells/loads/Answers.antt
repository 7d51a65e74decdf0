use Rattle.std.proofs.Common.{arith}
use Rattle.identity_cell.proofs.cells.loads.Goals as goal

pub returns : goal.returns
returns c = omega (arith, rw c.in-None.ensures.steps.0 at c.loop-cell.invariant.summed, c.loop-cell.invariant.small)

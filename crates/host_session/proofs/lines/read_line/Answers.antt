use Rattle.std.proofs.Common.{arith}
use Rattle.host_session.proofs.NextLine.{came_end, came_line, long_front, lost_more}
use Rattle.host_session.proofs.lines.read_line.Goals as goal

pub returns-in-Ok-Line-clause-found : goal.returns-in-Ok-Line-clause-found
returns-in-Ok-Line-clause-found g c =
    came_line _ _ _ _ _ _ _ c.loop-alloc.invariant.2 (rw c.in-Ok-Line.field-0-is at c.in-Ok-Line.ensures.brings)

pub returns-in-Ok-End-clause-found : goal.returns-in-Ok-End-clause-found
returns-in-Ok-End-clause-found g c =
    came_end _ _ _ _ _ _ c.loop-alloc.invariant.2 (rw c.in-Ok-End.field-0-is at c.in-Ok-End.ensures.brings)

pub returns-in-Err-clause-lost : goal.returns-in-Err-clause-lost
returns-in-Err-clause-lost g c = lost_more _ _ _ _ _ _ c.loop-alloc.invariant.2 c.loop-alloc.invariant.1 c.in-Err.ensures.lost

pub returns-clause-lost : goal.returns-clause-lost
returns-clause-lost g c =
    long_front _ _ _ c.loop-alloc.line.items c.loop-alloc.invariant.2 (omega (arith, c.loop-alloc-test.false, c.len.ensures, c.loop-alloc.line.ok.0))

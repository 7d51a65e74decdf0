use Rattle.std.proofs.Common.{take}
use Rattle.outside_scripted.specs.Wake.{IsNext}
use Rattle.outside_scripted.proofs.wake.earliest.Given as goal

-- the least of those so far
abbrev pub invariant-loop-due : goal.invariant-loop-due
invariant-loop-due l = IsNext l.moment (take l.due-index l.dues) l.next

use Rattle.std.proofs.Common.{◌≡◌, take}
use Rattle.runcheck.specs.Reading.Frames.{armed}
use Rattle.runcheck.proofs.reading.walk.wait_below.Given as goal

abbrev pub invariant-frames : goal.invariant-frames
invariant-frames l = armed (take l.fn.below l.left) ≡ armed (take l.rest l.left)

abbrev pub decreases-frames : goal.decreases-frames
decreases-frames l = l.rest

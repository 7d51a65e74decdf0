use Rattle.std.proofs.Common.{List, [], ◌≡◌, ◌+◌, vec_len, cond}
use Rattle.run_grammar.specs.Machine.{Spot}
use Rattle.runcheck.specs.declared.reading.walk.Frame.{Frame}
use Rattle.runcheck.specs.Reading.Frames.{Found, is_at, outside, state_of}
use Rattle.runcheck.proofs.reading.walk.resume.Given as goal

abbrev pub invariant-frames : goal.invariant-frames
invariant-frames l = (fs : List Frame) (t : Spot) → Found l.initial.found fs l.initial.left.items t →
    (gs : List Frame) × (u : Spot) × Found l.found gs l.left.items u × (outside fs t [] (state_of l.seen) ≡ outside gs u [] (state_of l.seen))

abbrev pub decreases-frames : goal.decreases-frames
decreases-frames l = cond (is_at l.found) 0 (vec_len l.left + 1)

use Rattle.std.proofs.Common.{◌≡◌, vec_len}
use Rattle.run_grammar.specs.Production.{Nothing}
use Rattle.run_grammar.specs.Machine.{Out, cut}
use Rattle.runcheck.specs.Reading.Frames.{plug}
use Rattle.runcheck.proofs.reading.Cuts.{outside_cut}
use Rattle.runcheck.proofs.reading.walk.cut.Given as goal

abbrev pub invariant-frames : goal.invariant-frames
invariant-frames l = cut (plug l.initial.left.items Nothing) l.role ≡ outside_cut l.left.items (Out l.inside) l.role

abbrev pub decreases-frames : goal.decreases-frames
decreases-frames l = vec_len l.left

-- The position that a stage and the frames around it are.
use Rattle.std.specs.Prelude.{ℕ, Option, None, Some, List, [], ◌∷◌, take}
use Rattle.run_grammar.specs.declared.kind.Role.{Role}
use Rattle.run_grammar.specs.Production.{Nothing}
use Rattle.run_grammar.specs.Machine.{Position}
use Rattle.run_grammar.specs.Machine as machine
use Rattle.runcheck.specs.declared.reading.walk.Frame.{Frame}
use Rattle.runcheck.specs.declared.reading.walk.Begun.{Begun}
use Rattle.runcheck.specs.declared.reading.walk.Begun.TheVariants as begun
use Rattle.runcheck.specs.declared.reading.walk.Stage.{Stage}
use Rattle.runcheck.specs.declared.reading.walk.Stage.TheVariants.{Whole, Dead, Asking, Waiting, Cutting}
use Rattle.runcheck.specs.declared.reading.walk.Walk.{Walk}
use Rattle.runcheck.specs.Reading.Frames.{armed, plug}

-- the deadlines that are still to be asked
abbrev pub waits : Option (Role × ℕ) → List Frame → List Role
waits None fs = []
waits (Some w) fs = w.0 ∷ armed (take w.1 fs)

-- the position in the grammar that a stage is within these frames
abbrev pub place : Stage → List Frame → Position
place Whole fs = machine.Whole
place Dead fs = machine.Dead
place (Asking k) fs = machine.Asking k (armed fs) (plug fs Nothing)
place (Waiting k w) fs = machine.Waiting k (armed fs) (waits w fs) (plug fs Nothing)
place (Cutting k d) fs = machine.Cutting k d (plug fs Nothing)

-- at the end of a production the run is whole, at a further round it is dead, and else it is at a question
abbrev pub staged : Begun → Stage
staged begun.Over = Whole
staged begun.Further = Dead
staged (begun.At k) = Asking k

-- where a walk stands in the grammar
abbrev pub position_of : Walk → Position
position_of w = place w.stage w.left.items

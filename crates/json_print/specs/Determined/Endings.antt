-- How a run ends is determined.
use Rattle.std.specs.Prelude.{◌≡◌, List, []}
use Rattle.run_grammar.specs.declared.answer.Entry.{Entry}
use Rattle.json_print.specs.Endings.{EndsBy}
use Rattle.json_print.specs.declared.ending.Ending.{Ending}
use Rattle.json_print.specs.declared.head.RunHead.{RunHead}
use Rattle.smithy_types.specs.declared.kinds.StopPoint.{StopPoint}

-- a run of one head, up to one point, with the same entries ends in one way
abbrev pub EndingsAreDetermined : Type 0
EndingsAreDetermined =
    (head : RunHead) (stop : StopPoint) (log : List Entry) (first second : Ending) → EndsBy head stop [] log first
    → EndsBy head stop [] log second → first ≡ second

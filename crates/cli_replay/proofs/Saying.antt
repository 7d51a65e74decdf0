-- What is told beside what is said of a script is told beside what is said of its bytes.
use Rattle.std.proofs.Common.{ℕ, List, Option}
use Rattle.cli_shell.specs.Said.{Said, prints, refuses}
use Rattle.cli_replay.specs.LeftOver.{script_tells, tells_left}
use Rattle.cli_replay.specs.Script.Replay.{IsScript}
use Rattle.cli_replay.specs.declared.left_over.LeftOver.{LeftOver}
use Rattle.cli_replay.specs.declared.script.replay.Script.{Script}

pub script_left : (bytes : List ℕ) (s : Script) (x : Said) (told : Option LeftOver) → IsScript bytes s → script_tells s x told → tells_left bytes x told
script_left bytes s (prints outcome text) told i h = (s, i, h)
script_left bytes s (refuses refusal) told i h = h

-- What is told of the answers that a run left over of its script.
use Rattle.std.specs.Prelude.{ℕ, ◌≡◌, ◌+◌, ◌-◌, Bool, true, false, Option, None, Some, option_and_then, option_map}
use Rattle.std.specs.Prelude.{List, [], ◌∷◌, drop, length, position, slice_get}
use Rattle.run_grammar.specs.Entry.{kind_of}
use Rattle.run_grammar.specs.declared.answer.Answer.{Answer}
use Rattle.run_grammar.specs.declared.answer.Answer.TheVariants as answers
use Rattle.run_grammar.specs.declared.answer.Entry.{Entry}
use Rattle.orchestrate.specs.Script.{next_of}
use Rattle.orchestrate.specs.declared.script.ScriptAnswer.{ScriptAnswer}
use Rattle.json_print.specs.Endings.{Ends}
use Rattle.json_print.specs.declared.ending.Ending.{Ending}
use Rattle.cli_replay.specs.ReplayValue.{ReplayValue}
use Rattle.cli_replay.specs.Script.Replay.{IsScript}
use Rattle.cli_replay.specs.Taking.{Takes}
use Rattle.cli_replay.specs.declared.left_over.LeftOver.{LeftOver}
use Rattle.cli_replay.specs.declared.left_over.Missed.{Missed}
use Rattle.cli_replay.specs.declared.script.replay.Script.{Script}
use Rattle.cli_shell.specs.Said.{Said, prints, refuses}
use Rattle.cli_shell.specs.Source.{SourceView}
use Rattle.cli_shell.specs.Streams.{IsRead}

-- the world has no such part
abbrev pub is_absent : Answer → Bool
is_absent answers.Absent = true
is_absent _ = false

-- the first entry whose question was answered Absent
abbrev pub first_absent : List Entry → Option ℕ
first_absent l = position (λ (e : Entry). is_absent e.answer) l

-- Of these entries, before which so many stand, the first whose question was answered Absent
-- has this number and this kind.
abbrev pub IsMissed : ℕ → List Entry → Option Missed → Type 0
IsMissed n l None = first_absent l ≡ None
IsMissed n l (Some m) =
    (option_map (λ (i : ℕ). n + i + 1) (first_absent l) ≡ Some m.number)
    × (option_map kind_of (option_and_then (slice_get l) (first_absent l)) ≡ Some m.kind)

-- What is told of a world that had so many answers: nothing where none is left.
abbrev pub IsLeft : ReplayValue → ℕ → Option LeftOver → Type 0
IsLeft w n None = next_of w.answers ≡ None
IsLeft w n (Some l) =
    (option_map (λ (x : ScriptAnswer). x.kind) (next_of w.answers) ≡ Some l.kind)
    × (l.first ≡ n - length w.answers) × (l.count ≡ n) × IsMissed w.until (drop w.until w.log) l.missed

-- What is told where a run with this log left these of the answers, and so many entries stand up to the last one
-- that took an answer: nothing where it left none, else from which place on, and which question missed them.
abbrev pub Tells : List ScriptAnswer → List ScriptAnswer → List Entry → ℕ → Option LeftOver → Type 0
Tells answers [] log until told = told ≡ None
Tells answers (x ∷ xs) log until told =
    (l : LeftOver) × (told ≡ Some l) × (drop l.first answers ≡ x ∷ xs) × (l.count ≡ length answers)
    × (l.kind ≡ x.kind) × IsMissed until (drop until log) l.missed

-- This is told of the script's run.
abbrev pub TellsLeft : Script → Option LeftOver → Type 0
TellsLeft s told =
    (log : List Entry) × (e : Ending) × (left : List ScriptAnswer) × (until : ℕ) × Ends s.head [] log e
    × Takes s.answers 0 0 log left (length log) until × Tells s.answers left log until told

-- This is told beside what is said of a script: of a print what its run left over, and else nothing.
abbrev pub script_tells : Script → Said → Option LeftOver → Type 0
script_tells s (prints outcome text) told = TellsLeft s told
script_tells s (refuses refusal) told = told ≡ None

-- the same beside what is said of bytes
abbrev pub tells_left : List ℕ → Said → Option LeftOver → Type 0
tells_left bytes (prints outcome text) told = (s : Script) × IsScript bytes s × TellsLeft s told
tells_left bytes (refuses refusal) told = told ≡ None

-- The input that was read is a script, and its run left this over.
abbrev pub ReadLeft : SourceView → SourceView → LeftOver → Type 0
ReadLeft before after l =
    (bytes : List ℕ) × IsRead before bytes after × (s : Script) × IsScript bytes s × TellsLeft s (Some l)

-- The runs that a script spells.
use Rattle.std.specs.Prelude.{ℕ, ◌≤◌, length, List, ◌≡◌, ◌⊎◌}
use Rattle.smithy_types.specs.declared.kinds.StopPoint.{StopPoint}
use Rattle.run_grammar.specs.declared.answer.Entry.{Entry}
use Rattle.run_grammar.specs.Standing.{State}
use Rattle.run_grammar.specs.Laws.{IsWhole, Begins}
use Rattle.orchestrate.specs.declared.script.ScriptAnswer.{ScriptAnswer}
use Rattle.orchestrate.specs.Script.{Spelled}

-- a whole run of at most fuel calls, or fuel calls that begin a run and are no whole one
abbrev pub IsRunWithin : StopPoint → State → ℕ → List Entry → Type 0
IsRunWithin stop s fuel l =
    ((length l ≤ fuel) × IsWhole stop s l) ⊎ ((length l ≡ fuel) × Begins stop s l × (IsWhole stop s l → ⊥))

-- a list of answers spells at most one of these
abbrev pub OneSpelledRun : Type 0
OneSpelledRun =
    (stop : StopPoint) (s : State) (fuel : ℕ) (answers left_over left_behind : List ScriptAnswer) (l m : List Entry) →
    IsRunWithin stop s fuel l → IsRunWithin stop s fuel m →
    Spelled answers l left_over → Spelled answers m left_behind → l ≡ m

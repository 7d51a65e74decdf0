-- How the answers of a script are taken.
use Rattle.std.specs.Prelude.{ℕ, suc, ◌≡◌, Bool, true, false, List, [], ◌∷◌}
use Rattle.run_grammar.specs.Entry.{kind_of}
use Rattle.run_grammar.specs.declared.answer.Entry.{Entry}
use Rattle.orchestrate.specs.Script.{Replies, left_by}
use Rattle.orchestrate.specs.declared.script.ScriptAnswer.{ScriptAnswer}

-- how many entries stand up to the last one that took an answer, once so many came
abbrev pub until_by : Bool → ℕ → ℕ → ℕ
until_by true calls until = calls
until_by false calls until = until

-- Each answer of the list of entries, before which so many stand, is what the answers give to its question.
-- In the end these are left, so many entries stand there, and so many up to the last one that took an answer.
abbrev pub Takes : List ScriptAnswer → ℕ → ℕ → List Entry → List ScriptAnswer → ℕ → ℕ → Type 0
Takes xs n u [] ys m v = (ys ≡ xs) × (m ≡ n) × (v ≡ u)
Takes xs n u (e ∷ l) ys m v =
    (taken : Bool) × Replies xs (kind_of e) e.answer taken
    × Takes (left_by taken xs) (suc n) (until_by taken (suc n) u) l ys m v

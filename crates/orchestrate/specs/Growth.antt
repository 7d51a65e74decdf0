-- How far a log has grown.
use Rattle.std.specs.Prelude.{ℕ, ◌≤◌, length, ◌≡◌, List, ◌++◌}
use Rattle.run_grammar.specs.declared.answer.Entry.{Entry}

-- the log is the log before, and then at most so many new entries
abbrev pub GrewByAtMost : ℕ → List Entry → List Entry → Type 0
GrewByAtMost n before log = (l : List Entry) × (log ≡ before ++ l) × (length l ≤ n)

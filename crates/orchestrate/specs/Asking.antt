-- What a question without an answer leaves.
use Rattle.std.specs.Prelude.{◌≡◌, ◌⊎◌, List, [], ◌∷◌, ◌++◌}
use Rattle.run_grammar.specs.declared.question.Question.{Question}
use Rattle.run_grammar.specs.declared.answer.Answer.TheVariants.{NoMemory}
use Rattle.run_grammar.specs.declared.answer.Entry.{Entry}
use Rattle.run_grammar.specs.Entry.{entry}

-- the log is as it was, or grew by this question with NoMemory
abbrev pub Unanswered : Question → List Entry → List Entry → Type 0
Unanswered q before log = (log ≡ before) ⊎ (log ≡ before ++ entry q NoMemory ∷ [])

-- What a contract sees of the world of a replay.
use Rattle.std.specs.Prelude.{ℕ, List}
use Rattle.run_grammar.specs.declared.answer.Entry.{Entry}
use Rattle.orchestrate.specs.declared.script.ScriptAnswer.{ScriptAnswer}

-- The answers that are left, the log, and how many of its entries stand up to the last one that took an answer.
pub record ReplayValue : Type 0 where
  pub answers : List ScriptAnswer
  pub log : List Entry
  pub until : ℕ

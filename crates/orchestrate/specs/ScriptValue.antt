-- What a contract sees of a world that answers from a list.
use Rattle.std.specs.Prelude.{List, reverse}
use Rattle.std.specs.Global.{Vec}
use Rattle.run_grammar.specs.declared.answer.Entry.{Entry}
use Rattle.orchestrate.specs.declared.script.ScriptAnswer.{ScriptAnswer}

-- the answers that are left, and the log
pub record ScriptValue : Type 0 where
  pub answers : List ScriptAnswer
  pub log : List Entry

-- the answers are kept the last one first
abbrev pub in_order : Vec ScriptAnswer → List ScriptAnswer
in_order v = reverse v.items

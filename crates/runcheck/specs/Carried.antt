-- Which runs a text carries.
use Rattle.std.specs.Prelude.{◌≡◌, List, Bool, true, ◌&&◌, IsUtf8}
use Rattle.std.specs.List.{list_all}
use Rattle.json_forms.specs.Lines.{are_readable}
use Rattle.run_grammar.specs.declared.answer.Answer.{Answer}
use Rattle.run_grammar.specs.declared.answer.Answer.TheVariants as answers
use Rattle.run_grammar.specs.declared.answer.Entry.{Entry}
use Rattle.json_print.specs.Print.{run_data, run_text}
use Rattle.json_print.specs.declared.ending.Ending.{Ending}
use Rattle.json_print.specs.declared.head.RunHead.{RunHead}
use Rattle.smithy_context.specs.declared.intercept.Change.{Change}
use Rattle.smithy_context.specs.declared.intercept.Change.TheVariants as changes
use Rattle.smithy_context.specs.declared.intercept.HookAnswer.{HookAnswer}
use Rattle.smithy_types.specs.declared.fault.FaultKind.{FaultKind}
use Rattle.smithy_types.specs.declared.fault.FaultKind.TheVariants as faults
use Rattle.smithy_types.specs.declared.fault.Outcome.{Outcome}
use Rattle.smithy_types.specs.declared.fault.Outcome.TheVariants as outcomes
use Rattle.json_values.specs.Spellable.{answer_spellable, change_spellable, fault_kind_spellable, layer_spellable}
use Rattle.json_values.specs.Spellable.{none_or, payload_spellable}

-- a failure that a script may write, or one of a hook
unfoldable pub fault_tellable : FaultKind → Bool
fault_tellable (faults.Interceptor hook) = true
fault_tellable (faults.Operation payload) = payload_spellable payload
fault_tellable (faults.Connector kind) = true
fault_tellable faults.Timeout = true
fault_tellable faults.Response = true
fault_tellable faults.Other = true

-- an output that JSON spells, or a failure that a text carries
unfoldable pub outcome_tellable : Outcome → Bool
outcome_tellable (outcomes.Output payload) = payload_spellable payload
outcome_tellable (outcomes.Failed fault) = fault_tellable fault.kind

-- what a hook writes, an outcome with a failure of a hook too
unfoldable pub change_tellable : Change → Bool
change_tellable (changes.Input payload) = change_spellable (changes.Input payload)
change_tellable (changes.Request request) = change_spellable (changes.Request request)
change_tellable (changes.Response response) = change_spellable (changes.Response response)
change_tellable (changes.Outcome outcome) = outcome_tellable outcome

-- a hook's answer whose change and settings a text carries
unfoldable pub hook_answer_tellable : HookAnswer → Bool
hook_answer_tellable a = none_or change_tellable a.change && layer_spellable a.settings

-- an answer that JSON spells, with failures of hooks too
unfoldable pub answer_tellable : Answer → Bool
answer_tellable (answers.Hooked answer) = hook_answer_tellable answer
answer_tellable (answers.Outcome outcome) = outcome_tellable outcome
answer_tellable answer = answer_spellable answer

-- each answer of a log is carried
abbrev pub answers_tellable : List Entry → Bool
answers_tellable log = list_all (λ (e : Entry). answer_tellable e.answer) log

-- JSON spells the input and each answer; no line has a number of more than 64 bits, or nests too deeply to be read;
-- and the text is of characters
pub record IsCarried (head : RunHead) (log : List Entry) (e : Ending) : Type 0 where
  pub input : payload_spellable head.input ≡ true
  pub answers : answers_tellable log ≡ true
  pub lines : are_readable (run_data head log e) ≡ true
  pub characters : IsUtf8 (run_text head log e)

-- Which answers JSON spells, those with a failure of a hook among them.
use Rattle.std.specs.Prelude.{ℕ, List, Option, Some, None, codes}
use Rattle.serde_json.specs.Data.{Data}
use Rattle.serde_json.specs.Find.{as_str}
use Rattle.smithy_context.specs.declared.intercept.Change.TheVariants as changes
use Rattle.smithy_types.specs.declared.fault.Fault.{Fault}
use Rattle.smithy_types.specs.declared.fault.FaultKind.TheVariants as faults
use Rattle.smithy_types.specs.declared.fault.Outcome.{Outcome}
use Rattle.smithy_types.specs.declared.fault.Outcome.TheVariants as outcomes
use Rattle.smithy_types.specs.declared.hook.Hook.{Hook}
use Rattle.run_grammar.specs.declared.answer.Answer.{Answer}
use Rattle.run_grammar.specs.declared.answer.Answer.TheVariants as answers
use Rattle.run_grammar.specs.declared.kind.Kind.{Kind}
use Rattle.run_grammar.specs.declared.kind.Kind.TheVariants as kinds
use Rattle.json_forms.specs.Forms.{named, optional_at, tagged_at, word_at}
use Rattle.json_forms.specs.Plain.{triple_at, quadruple_at}
use Rattle.json_forms.specs.Reading.{◌>>=◌}
use Rattle.json_values.specs.AnswerReadings.{answer_at}
use Rattle.smithy_types.specs.Hooks.{all_hooks, hook_text}
use Rattle.json_values.specs.Readings.{failed_by}
use Rattle.json_values.specs.SettingReadings.{layer_at}

-- a hook, by its name
unfoldable pub hook_at : Data → Option Hook
hook_at d = as_str d >>= named hook_text all_hooks

-- a failure of a hook, which no script may write
unfoldable pub hook_fault_at : Data → Option Fault
hook_fault_at d = triple_at d >>= λ p. word_at (codes "Interceptor") p.0 >>= λ _. hook_at p.1 >>= λ h.
    as_str p.2 >>= λ t. Some (failed_by (faults.Interceptor h) t)

-- the outcome that is such a failure
unfoldable pub hook_outcome_at : Data → Option Outcome
hook_outcome_at d = tagged_at (codes "Failed") d >>= hook_fault_at >>= λ f. Some (outcomes.Failed f)

-- that outcome as it is answered
unfoldable pub failing_answer_at : Data → Option Answer
failing_answer_at d = tagged_at (codes "Outcome") d >>= hook_outcome_at >>= λ o. Some (answers.Outcome o)

-- that outcome as a hook writes it
unfoldable pub failing_hook_at : Data → Option Answer
failing_hook_at d = quadruple_at d >>= λ p. word_at (codes "Hook") p.0 >>= λ _.
    tagged_at (codes "Outcome") p.1 >>= hook_outcome_at >>= λ o. layer_at p.2 >>= λ l. optional_at as_str p.3 >>= λ t.
    Some (answers.Hooked (record { change = Some (changes.Outcome o); settings = l; failure = t }))

-- an answer with a failure of a hook
unfoldable pub hook_failure_at : Kind → Data → Option Answer
hook_failure_at (kinds.Hook hook) d = failing_hook_at d
hook_failure_at kinds.Stream d = failing_answer_at d
hook_failure_at kinds.Deserialize d = failing_answer_at d
hook_failure_at _ d = None

-- the first reading, or the second where there is no first
abbrev pub or_else : {X : Type 0} → Option X → Option X → Option X
or_else (Some x) other = Some x
or_else None other = other

-- an answer that a script may write, or one with a failure of a hook
unfoldable pub told_answer_at : Kind → Data → Option Answer
told_answer_at k d = or_else (answer_at k d) (hook_failure_at k d)

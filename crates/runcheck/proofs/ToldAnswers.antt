-- Answers that are printed are told again.
use Rattle.std.proofs.Common.{◌≡◌, ◌⊎◌, inl, inr, ℕ, List, Bool, true, false, ◌&&◌, Option, Some, None, refl, ap, ◌∙◌}
use Rattle.std.proofs.lemmas.Bool.{and_parts, and_from}
use Rattle.json_forms.specs.Forms.{first_says, optional_at, says, starts, tagged_at, word_at}
use Rattle.json_forms.specs.Reading.{◌>>=◌}
use Rattle.serde_json.specs.Data.{Data, string}
use Rattle.run_grammar.specs.Fits.{fits}
use Rattle.run_grammar.specs.declared.answer.Answer.{Answer}
use Rattle.run_grammar.specs.declared.answer.Answer.TheVariants as answers
use Rattle.run_grammar.specs.declared.kind.Kind.{Kind}
use Rattle.run_grammar.specs.declared.kind.Kind.TheVariants as kinds
use Rattle.smithy_context.specs.declared.intercept.Change.{Change}
use Rattle.smithy_context.specs.declared.intercept.Change.TheVariants as changes
use Rattle.smithy_context.specs.declared.intercept.HookAnswer.{HookAnswer}
use Rattle.smithy_context.specs.declared.layer.LayerEntry.{LayerEntry}
use Rattle.smithy_types.specs.declared.fault.FaultKind.{FaultKind}
use Rattle.smithy_types.specs.declared.fault.FaultKind.TheVariants as faults
use Rattle.smithy_types.specs.declared.fault.Outcome.{Outcome}
use Rattle.smithy_types.specs.declared.fault.Outcome.TheVariants as outcomes
use Rattle.smithy_types.specs.declared.hook.Hook.{Hook}
use Rattle.smithy_types.specs.declared.hook.Hook.TheVariants as hooks
use Rattle.json_values.specs.AnswerReadings.{answer_at, hook_answer_at, hooked_at, outcome_answer_at, streamed_at}
use Rattle.smithy_types.specs.Hooks.{hook_text}
use Rattle.json_values.specs.Readings.{change_at, failed_by, fault_at, outcome_at, plain_fault_at}
use Rattle.json_values.specs.Spellable.{answer_spellable, change_spellable, fault_kind_spellable, hook_answer_spellable, layer_spellable, none_or, outcome_spellable}
use Rattle.json_values.specs.Values.{answer_data, change_data, fault_data, fault_parts, hook_answer_data, outcome_data}
use Rattle.json_values.proofs.PrintedAnswers.{answer_read}
use Rattle.json_values.proofs.PrintedForms.{optional_text_read}
use Rattle.json_values.proofs.PrintedLayers.{layer_read}
use Rattle.runcheck.specs.Carried.{answer_tellable, change_tellable, fault_tellable, hook_answer_tellable, outcome_tellable}
use Rattle.runcheck.specs.Failing.{failing_answer_at, failing_hook_at, hook_at, hook_failure_at, hook_fault_at, hook_outcome_at, told_answer_at}

-- ---- which of the two readers reads it

spelled_told : (k : Kind) (d : Data) (a : Answer) → answer_at k d ≡ Some a → told_answer_at k d ≡ Some a
unfolding told_answer_at
spelled_told k d a h = rw h refl

failing_told : (k : Kind) (d : Data) (a : Answer) → answer_at k d ≡ None → hook_failure_at k d ≡ Some a → told_answer_at k d ≡ Some a
unfolding told_answer_at
failing_told k d a n h = rw n h

-- ---- the outcome that is a failure of a hook

hook_read : (h : Hook) → hook_at (string (hook_text h)) ≡ Some h
unfolding hook_at
hook_read hooks.ReadBeforeExecutionClient = refl
hook_read _ = refl

abbrev by_hook : Hook → List ℕ → Outcome
by_hook h t = outcomes.Failed (failed_by (faults.Interceptor h) t)

outcome_none : (h : Hook) (t : List ℕ) → outcome_at (outcome_data (by_hook h t)) ≡ None
unfolding outcome_at outcome_data fault_at fault_data fault_parts plain_fault_at starts first_says says tagged_at word_at
outcome_none h t = refl

outcome_told : (h : Hook) (t : List ℕ) → hook_outcome_at (outcome_data (by_hook h t)) ≡ Some (by_hook h t)
unfolding hook_outcome_at hook_fault_at outcome_data fault_data fault_parts tagged_at word_at
outcome_told h t = rw (hook_read h) refl

-- ---- as an answer

streamed_none : (h : Hook) (t : List ℕ) → streamed_at (answer_data (answers.Outcome (by_hook h t))) ≡ None
unfolding streamed_at outcome_answer_at answer_data starts first_says says tagged_at word_at
streamed_none h t = rw (outcome_none h t) refl

deserialized_none : (h : Hook) (t : List ℕ) → outcome_answer_at (answer_data (answers.Outcome (by_hook h t))) ≡ None
unfolding outcome_answer_at answer_data starts first_says says tagged_at word_at
deserialized_none h t = rw (outcome_none h t) refl

answer_told : (h : Hook) (t : List ℕ) → failing_answer_at (answer_data (answers.Outcome (by_hook h t))) ≡ Some (answers.Outcome (by_hook h t))
unfolding failing_answer_at answer_data tagged_at word_at
answer_told h t = rw (outcome_told h t) refl

failing_outcome_told : (k : Kind) (h : Hook) (t : List ℕ) → fits k (answers.Outcome (by_hook h t)) ≡ true → told_answer_at k (answer_data (answers.Outcome (by_hook h t))) ≡ Some (answers.Outcome (by_hook h t))
unfolding fits answer_at hook_failure_at
failing_outcome_told kinds.Stream h t f = failing_told kinds.Stream _ _ (streamed_none h t) (answer_told h t)
failing_outcome_told kinds.Deserialize h t f = failing_told kinds.Deserialize _ _ (deserialized_none h t) (answer_told h t)
failing_outcome_told _ h t f = absurd (cc)

-- ---- as what a hook writes

abbrev hooked_by : Hook → List ℕ → List LayerEntry → Option (List ℕ) → HookAnswer
hooked_by h t l x = record { change = Some (changes.Outcome (by_hook h t)); settings = l; failure = x }

change_none : (h : Hook) (t : List ℕ) → change_at (change_data (changes.Outcome (by_hook h t))) ≡ None
unfolding change_at change_data starts first_says says tagged_at word_at
change_none h t = rw (outcome_none h t) refl

optional_change_none : (h : Hook) (t : List ℕ) → optional_at change_at (change_data (changes.Outcome (by_hook h t))) ≡ None
unfolding optional_at change_data
optional_change_none h t = rw (change_none h t) refl

hooked_none : (h : Hook) (t : List ℕ) (l : List LayerEntry) (x : Option (List ℕ)) → hook_answer_at (hook_answer_data (hooked_by h t l x)) ≡ None
unfolding hook_answer_at hooked_at hook_answer_data says word_at
hooked_none h t l x = rw (optional_change_none h t) refl

hook_told : (h : Hook) (t : List ℕ) (l : List LayerEntry) (x : Option (List ℕ)) → layer_spellable l ≡ true → failing_hook_at (hook_answer_data (hooked_by h t l x)) ≡ Some (answers.Hooked (hooked_by h t l x))
unfolding failing_hook_at hook_answer_data change_data tagged_at word_at
hook_told h t l x s = rw (outcome_told h t, layer_read l s, optional_text_read x) refl

failing_hook_told : (k : Kind) (h : Hook) (t : List ℕ) (l : List LayerEntry) (x : Option (List ℕ)) → layer_spellable l ≡ true → fits k (answers.Hooked (hooked_by h t l x)) ≡ true →
    told_answer_at k (answer_data (answers.Hooked (hooked_by h t l x))) ≡ Some (answers.Hooked (hooked_by h t l x))
unfolding fits answer_at hook_failure_at answer_data
failing_hook_told (kinds.Hook hook) h t l x s f = failing_told (kinds.Hook hook) (hook_answer_data (hooked_by h t l x)) (answers.Hooked (hooked_by h t l x)) (rw (hooked_none h t l x) refl) (hook_told h t l x s)
failing_hook_told _ h t l x s f = absurd (cc)

-- ---- every answer

spelled : (k : Kind) (a : Answer) → fits k a ≡ true → answer_spellable a ≡ true → told_answer_at k (answer_data a) ≡ Some a
spelled k a f h = spelled_told k (answer_data a) a (answer_read k a f h)

fault_told : (k : Kind) (c : FaultKind) (t : List ℕ) → fits k (answers.Outcome (outcomes.Failed (failed_by c t))) ≡ true → fault_tellable c ≡ true →
    told_answer_at k (answer_data (answers.Outcome (outcomes.Failed (failed_by c t)))) ≡ Some (answers.Outcome (outcomes.Failed (failed_by c t)))
unfolding answer_spellable outcome_spellable fault_kind_spellable fault_tellable
fault_told k (faults.Interceptor hook) t f h = failing_outcome_told k hook t f
fault_told k (faults.Operation payload) t f h = spelled k _ f h
fault_told k (faults.Connector kind) t f h = spelled k _ f refl
fault_told k faults.Timeout t f h = spelled k _ f refl
fault_told k faults.Response t f h = spelled k _ f refl
fault_told k faults.Other t f h = spelled k _ f refl

outcome_answer_told : (k : Kind) (o : Outcome) → fits k (answers.Outcome o) ≡ true → outcome_tellable o ≡ true → told_answer_at k (answer_data (answers.Outcome o)) ≡ Some (answers.Outcome o)
unfolding answer_spellable outcome_spellable outcome_tellable
outcome_answer_told k (outcomes.Output payload) f h = spelled k _ f h
outcome_answer_told k (outcomes.Failed fault) f h = fault_told k fault.kind fault.text f h

abbrev hooked_with : Option Change → List LayerEntry → Option (List ℕ) → HookAnswer
hooked_with c l x = record { change = c; settings = l; failure = x }

spelled_hook : (k : Kind) (c : Option Change) (l : List LayerEntry) (x : Option (List ℕ)) → fits k (answers.Hooked (hooked_with c l x)) ≡ true → none_or change_spellable c ≡ true → layer_spellable l ≡ true →
    told_answer_at k (answer_data (answers.Hooked (hooked_with c l x))) ≡ Some (answers.Hooked (hooked_with c l x))
unfolding answer_spellable hook_answer_spellable
spelled_hook k c l x f h s = spelled k _ f (and_from _ _ h s)

fault_hook_told : (k : Kind) (c : FaultKind) (t : List ℕ) (l : List LayerEntry) (x : Option (List ℕ)) → fits k (answers.Hooked (hooked_with (Some (changes.Outcome (outcomes.Failed (failed_by c t)))) l x)) ≡ true →
    fault_tellable c ≡ true → layer_spellable l ≡ true →
    told_answer_at k (answer_data (answers.Hooked (hooked_with (Some (changes.Outcome (outcomes.Failed (failed_by c t)))) l x))) ≡ Some (answers.Hooked (hooked_with (Some (changes.Outcome (outcomes.Failed (failed_by c t)))) l x))
unfolding change_spellable outcome_spellable fault_kind_spellable fault_tellable
fault_hook_told k (faults.Interceptor hook) t l x f h s = failing_hook_told k hook t l x s f
fault_hook_told k (faults.Operation payload) t l x f h s = spelled_hook k _ l x f h s
fault_hook_told k (faults.Connector kind) t l x f h s = spelled_hook k _ l x f refl s
fault_hook_told k faults.Timeout t l x f h s = spelled_hook k _ l x f refl s
fault_hook_told k faults.Response t l x f h s = spelled_hook k _ l x f refl s
fault_hook_told k faults.Other t l x f h s = spelled_hook k _ l x f refl s

change_hook_told : (k : Kind) (c : Option Change) (l : List LayerEntry) (x : Option (List ℕ)) → fits k (answers.Hooked (hooked_with c l x)) ≡ true → none_or change_tellable c ≡ true → layer_spellable l ≡ true →
    told_answer_at k (answer_data (answers.Hooked (hooked_with c l x))) ≡ Some (answers.Hooked (hooked_with c l x))
unfolding change_tellable outcome_tellable change_spellable outcome_spellable
change_hook_told k None l x f h s = spelled_hook k None l x f refl s
change_hook_told k (Some (changes.Input payload)) l x f h s = spelled_hook k _ l x f h s
change_hook_told k (Some (changes.Request request)) l x f h s = spelled_hook k _ l x f h s
change_hook_told k (Some (changes.Response response)) l x f h s = spelled_hook k _ l x f h s
change_hook_told k (Some (changes.Outcome (outcomes.Output payload))) l x f h s = spelled_hook k _ l x f h s
change_hook_told k (Some (changes.Outcome (outcomes.Failed fault))) l x f h s = fault_hook_told k fault.kind fault.text l x f h s

hook_answer_told : (k : Kind) (a : HookAnswer) → fits k (answers.Hooked a) ≡ true → hook_answer_tellable a ≡ true → told_answer_at k (answer_data (answers.Hooked a)) ≡ Some (answers.Hooked a)
unfolding hook_answer_tellable
hook_answer_told k a f h = let p = and_parts (none_or change_tellable a.change) (layer_spellable a.settings) h in change_hook_told k a.change a.settings a.failure f p.0 p.1

pub told_answer_read : (k : Kind) (a : Answer) → fits k a ≡ true → answer_tellable a ≡ true → told_answer_at k (answer_data a) ≡ Some a
unfolding answer_tellable
told_answer_read k answers.Pending f h = spelled k _ f h
told_answer_read k answers.Absent f h = spelled k _ f h
told_answer_read k (answers.Failed text) f h = spelled k _ f h
told_answer_read k (answers.ConnectorFailed kind text) f h = spelled k _ f h
told_answer_read k (answers.Layer layer) f h = spelled k _ f h
told_answer_read k (answers.Hooked answer) f h = hook_answer_told k answer f h
told_answer_read k (answers.Request request) f h = spelled k _ f h
told_answer_read k (answers.Loaded bytes) f h = spelled k _ f h
told_answer_read k answers.Go f h = spelled k _ f h
told_answer_read k answers.No f h = spelled k _ f h
told_answer_read k (answers.Delay nanos) f h = spelled k _ f h
told_answer_read k answers.Started f h = spelled k _ f h
told_answer_read k answers.Ready f h = spelled k _ f h
told_answer_read k (answers.Chosen chosen) f h = spelled k _ f h
told_answer_read k (answers.Endpoint endpoint) f h = spelled k _ f h
told_answer_read k (answers.Response response) f h = spelled k _ f h
told_answer_read k answers.NotStreaming f h = spelled k _ f h
told_answer_read k (answers.Outcome outcome) f h = outcome_answer_told k outcome f h
told_answer_read k (answers.Read bytes) f h = spelled k _ f h
told_answer_read k (answers.Decided choice note) f h = spelled k _ f h
told_answer_read k answers.Abandoned f h = spelled k _ f h
told_answer_read k answers.Parked f h = spelled k _ f h
told_answer_read k answers.NoMemory f h = spelled k _ f h

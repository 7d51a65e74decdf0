-- Notes, choices and answers of hooks that are printed are read again.
use Rattle.std.proofs.Common.{◌≡◌, ℕ, List, [], ◌∷◌, Bool, true, false, ◌&&◌, is_none, Option, Some, None, refl, ap}
use Rattle.std.proofs.lemmas.Bool.{and_parts}
use Rattle.serde_json.specs.Data.{null}
use Rattle.smithy_types.specs.declared.identity.Endpoint.{Endpoint}
use Rattle.smithy_context.specs.declared.intercept.Change.{Change}
use Rattle.smithy_context.specs.declared.intercept.HookAnswer.{HookAnswer}
use Rattle.smithy_context.specs.declared.layer.LayerEntry.{LayerEntry}
use Rattle.smithy_types.specs.declared.notes.Choice.{Choice}
use Rattle.smithy_types.specs.declared.notes.Choice.TheVariants as choices
use Rattle.smithy_types.specs.declared.notes.ChooseNote.{ChooseNote}
use Rattle.smithy_types.specs.declared.notes.ChooseNote.TheVariants as choose_notes
use Rattle.smithy_types.specs.declared.notes.DecideNote.{DecideNote}
use Rattle.smithy_types.specs.declared.notes.Reason.{Reason}
use Rattle.smithy_types.specs.declared.notes.Reason.TheVariants as reasons
use Rattle.smithy_types.specs.declared.notes.RetryAction.{RetryAction}
use Rattle.smithy_types.specs.declared.notes.RetryAction.TheVariants as actions
use Rattle.smithy_types.specs.declared.sums.Sums.{Sums}
use Rattle.run_grammar.specs.declared.answer.Chosen.{Chosen}
use Rattle.json_values.specs.AnswerReadings.{choose_note_at, choice_at, indicated_at, action_at, reason_at, sums_at, note_at, hooked_at, done, hook_answer_at, chosen_at}
use Rattle.json_forms.specs.Forms.{starts, first_says, says, word_at, tagged_at, optional_at}
use Rattle.json_values.specs.Readings.{endpoint_at}
use Rattle.json_values.specs.Spellable.{none_or, bytes_spellable, change_spellable, layer_spellable, hook_answer_spellable, reason_spellable, note_spellable, chosen_spellable}
use Rattle.json_forms.specs.Prints.{null_or}
use Rattle.json_values.specs.Values.{no_layer, does_nothing, hook_answer_data, choose_note_data, choice_data, action_data, reason_data, sums_data, note_data, endpoint_data, chosen_data}
use Rattle.json_values.proofs.PrintedForms.{optional_read_all, optional_number_read, optional_text_read}
use Rattle.json_values.proofs.PrintedLayers.{layer_read}
use Rattle.json_values.proofs.PrintedNames.{error_kind_read}
use Rattle.json_values.proofs.PrintedOutcomes.{identity_read, endpoint_read, no_endpoint, optional_change_read}

choose_note_read : (n : ChooseNote) → choose_note_at (choose_note_data n) ≡ Some n
unfolding choose_note_at choose_note_data says word_at
choose_note_read choose_notes.Hit = refl
choose_note_read choose_notes.Load = refl
choose_note_read choose_notes.Uncached = refl

no_choose_note : choose_note_at null ≡ None
unfolding choose_note_at says word_at
no_choose_note = refl

pub choice_read : (c : Choice) → choice_at (choice_data c) ≡ Some c
unfolding choice_at choice_data starts first_says says tagged_at word_at
choice_read choices.Yes = refl
choice_read choices.No = refl
choice_read (choices.NoAfter nanos) = refl
choice_read (choices.Delay nanos) = refl

action_read : (a : RetryAction) → action_at (action_data a) ≡ Some a
unfolding action_at action_data indicated_at says word_at
action_read actions.NoActionIndicated = refl
action_read (actions.RetryIndicated kind after) = rw (error_kind_read kind, optional_number_read after) refl
action_read actions.RetryForbidden = refl

reason_read : (r : Reason) → reason_spellable r ≡ true → reason_at (reason_data r) ≡ Some r
unfolding reason_at reason_data reason_spellable starts first_says says tagged_at word_at
reason_read reasons.NotIndicated h = refl
reason_read reasons.OutOfAttempts h = refl
reason_read (reasons.NoQuota cost) h = rw h refl
reason_read (reasons.Granted amount) h = rw h refl

sums_read : (s : Sums) → sums_at (sums_data s) ≡ Some s
unfolding sums_at sums_data
sums_read s = refl

no_sums : sums_at null ≡ None
unfolding sums_at
no_sums = refl

optional_sums_read : (s : Option Sums) → optional_at sums_at (null_or sums_data s) ≡ Some s
optional_sums_read s = optional_read_all sums_at sums_data no_sums sums_read s

pub note_read : (n : DecideNote) → note_spellable n ≡ true → note_at (note_data n) ≡ Some n
unfolding note_at note_data
note_read n h = rw (action_read n.verdict, optional_number_read n.moment, reason_read n.reason h, optional_sums_read n.sums) refl

-- ---- answers of hooks

made_of : Option Change → List LayerEntry → Option (List ℕ) → HookAnswer
made_of c l t = record { change = c; settings = l; failure = t }

done_again : (c : Option Change) (l : List LayerEntry) (t : Option (List ℕ)) → is_none c && no_layer l && is_none t ≡ true → done ≡ made_of c l t
unfolding made_of
done_again None [] None h = refl
done_again (Some c) l t h = absurd (cc)
done_again None (e ∷ l) t h = absurd (cc)
done_again None [] (Some t) h = absurd (cc)

done_read : (a : HookAnswer) → does_nothing a ≡ true → hook_answer_at (hook_answer_data a) ≡ Some a
unfolding hook_answer_at hook_answer_data says made_of
done_read a h = rw h (ap Some (done_again a.change a.settings a.failure h))

written_read : (a : HookAnswer) → does_nothing a ≡ false → hook_answer_spellable a ≡ true → hook_answer_at (hook_answer_data a) ≡ Some a
unfolding hook_answer_at hook_answer_data hooked_at hook_answer_spellable says word_at
written_read a n h =
    let parts = and_parts (none_or change_spellable a.change) (layer_spellable a.settings) h in
    rw n (rw (optional_change_read a.change parts.0, layer_read a.settings parts.1, optional_text_read a.failure) (rw n refl))

pub hook_answer_read : (a : HookAnswer) → hook_answer_spellable a ≡ true → hook_answer_at (hook_answer_data a) ≡ Some a
hook_answer_read a h = by_test (does_nothing a) refl
  where
    by_test : (t : Bool) → does_nothing a ≡ t → hook_answer_at (hook_answer_data a) ≡ Some a
    by_test true e = done_read a e
    by_test false e = written_read a e h

-- ---- choices of an auth scheme

optional_endpoint_read : (e : Option Endpoint) → optional_at endpoint_at (null_or endpoint_data e) ≡ Some e
optional_endpoint_read e = optional_read_all endpoint_at endpoint_data no_endpoint endpoint_read e

optional_choose_note_read : (n : Option ChooseNote) → optional_at choose_note_at (null_or choose_note_data n) ≡ Some n
optional_choose_note_read n = optional_read_all choose_note_at choose_note_data no_choose_note choose_note_read n

pub chosen_read : (c : Chosen) → chosen_spellable c ≡ true → chosen_at (chosen_data c) ≡ Some c
unfolding chosen_at chosen_data chosen_spellable word_at
chosen_read c h =
    let parts = and_parts (bytes_spellable c.identity.content) (layer_spellable c.settings) h in
    rw (identity_read c.identity parts.0, optional_endpoint_read c.endpoint, layer_read c.settings parts.1, optional_choose_note_read c.note) refl

-- Answers that are printed are read again.
use Rattle.std.proofs.Common.{◌≡◌, true, codes, Option, Some, None, refl}
use Rattle.smithy_types.specs.declared.notes.Choice.{Choice}
use Rattle.smithy_types.specs.declared.notes.Choice.TheVariants as choices
use Rattle.smithy_types.specs.declared.notes.DecideNote.{DecideNote}
use Rattle.run_grammar.specs.Fits.{fits, fits_configure, fits_hook, fits_request, fits_load, fits_initial, fits_start, fits_wait, fits_choose, fits_endpoint, fits_transmit, fits_stream, fits_body, fits_deserialize, fits_decide, fits_abandon, fits_park}
use Rattle.run_grammar.specs.declared.answer.Answer.{Answer}
use Rattle.run_grammar.specs.declared.answer.Answer.TheVariants as answers
use Rattle.run_grammar.specs.declared.answer.Chosen.{Chosen}
use Rattle.run_grammar.specs.declared.kind.Kind.{Kind}
use Rattle.run_grammar.specs.declared.kind.Kind.TheVariants as kinds
use Rattle.json_values.specs.AnswerReadings.{absent_at, absence_at, waiting_at, configured_at, hook_answer_at, requested_at, loaded_at, initial_at, started_at, waited_at, choosing_at, resolved_at, connector_failed_at, transmitted_at, outcome_answer_at, streamed_at, body_read_at, noted_at, plainly_decided_at, decided_at, choice_at, said_at, answer_at}
use Rattle.json_forms.specs.Forms.{starts, first_says, says, word_at, tagged_at}
use Rattle.json_forms.specs.Reading.{◌>>=◌}
use Rattle.json_values.specs.Spellable.{none_or, note_spellable, chosen_spellable, answer_spellable}
use Rattle.json_values.specs.Values.{choice_data, decided_data, chosen_data, answer_data}
use Rattle.json_values.proofs.PrintedForms.{blob_read}
use Rattle.json_values.proofs.PrintedHeads.{request_read, response_read}
use Rattle.json_values.proofs.PrintedLayers.{layer_read}
use Rattle.json_values.proofs.PrintedNotes.{choice_read, note_read, hook_answer_read, chosen_read}
use Rattle.json_values.proofs.PrintedOutcomes.{endpoint_read, connector_read, outcome_read}

tag_of_choice : (c : Chosen) → starts (codes "Chosen") (chosen_data c) ≡ true
unfolding chosen_data starts first_says says
tag_of_choice c = refl

tagged_choice : (c : Chosen) → chosen_spellable c ≡ true → choosing_at (chosen_data c) ≡ Some (answers.Chosen c)
unfolding choosing_at
tagged_choice c h = rw (tag_of_choice c, chosen_read c h) refl

plain_choice : (c : Choice) → decided_at (choice_data c) ≡ Some (answers.Decided c None)
unfolding decided_at plainly_decided_at choice_at choice_data starts first_says says tagged_at word_at
plain_choice choices.Yes = refl
plain_choice choices.No = refl
plain_choice (choices.NoAfter nanos) = refl
plain_choice (choices.Delay nanos) = refl

choice_and_note : (c : Choice) (n : Option DecideNote) → none_or note_spellable n ≡ true → decided_at (decided_data c n) ≡ Some (answers.Decided c n)
unfolding decided_at decided_data noted_at starts first_says says word_at
choice_and_note c None h = plain_choice c
choice_and_note c (Some note) h = rw (choice_read c, note_read note h) refl

configured_read : (a : Answer) → fits_configure a ≡ true → answer_spellable a ≡ true → configured_at (answer_data a) ≡ Some a
unfolding configured_at answer_data answer_spellable absence_at absent_at waiting_at starts first_says says tagged_at word_at
configured_read (answers.Layer layer) f h = rw (layer_read layer h) refl
configured_read (answers.Failed text) f h = refl
configured_read answers.Absent f h = refl
configured_read _ f h = absurd (cc)

requested_read : (a : Answer) → fits_request a ≡ true → answer_spellable a ≡ true → requested_at (answer_data a) ≡ Some a
unfolding requested_at answer_data answer_spellable absence_at absent_at waiting_at starts first_says says tagged_at word_at
requested_read (answers.Request request) f h = rw (request_read request h) refl
requested_read (answers.Failed text) f h = refl
requested_read answers.Absent f h = refl
requested_read _ f h = absurd (cc)

loaded_read : (a : Answer) → fits_load a ≡ true → answer_spellable a ≡ true → loaded_at (answer_data a) ≡ Some a
unfolding loaded_at answer_data answer_spellable absence_at absent_at waiting_at starts first_says says tagged_at word_at
loaded_read answers.Pending f h = refl
loaded_read (answers.Loaded bytes) f h = rw (blob_read bytes h) refl
loaded_read (answers.Failed text) f h = refl
loaded_read answers.Absent f h = refl
loaded_read _ f h = absurd (cc)

initial_read : (a : Answer) → fits_initial a ≡ true → answer_spellable a ≡ true → initial_at (answer_data a) ≡ Some a
unfolding initial_at answer_data answer_spellable absence_at absent_at waiting_at starts first_says says tagged_at word_at
initial_read answers.Go f h = refl
initial_read answers.No f h = refl
initial_read (answers.Delay nanos) f h = refl
initial_read (answers.Failed text) f h = refl
initial_read answers.Absent f h = refl
initial_read _ f h = absurd (cc)

started_read : (a : Answer) → fits_start a ≡ true → answer_spellable a ≡ true → started_at (answer_data a) ≡ Some a
unfolding started_at answer_data answer_spellable absence_at absent_at waiting_at starts first_says says tagged_at word_at
started_read answers.Started f h = refl
started_read answers.Absent f h = refl
started_read _ f h = absurd (cc)

waited_read : (a : Answer) → fits_wait a ≡ true → answer_spellable a ≡ true → waited_at (answer_data a) ≡ Some a
unfolding waited_at answer_data answer_spellable absence_at absent_at waiting_at starts first_says says tagged_at word_at
waited_read answers.Pending f h = refl
waited_read answers.Ready f h = refl
waited_read _ f h = absurd (cc)

choosing_read : (a : Answer) → fits_choose a ≡ true → answer_spellable a ≡ true → choosing_at (answer_data a) ≡ Some a
unfolding choosing_at answer_data answer_spellable absence_at absent_at waiting_at starts first_says says tagged_at word_at
choosing_read answers.Pending f h = refl
choosing_read (answers.Chosen chosen) f h = tagged_choice chosen h
choosing_read (answers.Failed text) f h = refl
choosing_read answers.Absent f h = refl
choosing_read _ f h = absurd (cc)

resolved_read : (a : Answer) → fits_endpoint a ≡ true → answer_spellable a ≡ true → resolved_at (answer_data a) ≡ Some a
unfolding resolved_at answer_data answer_spellable absence_at absent_at waiting_at starts first_says says tagged_at word_at
resolved_read answers.Pending f h = refl
resolved_read (answers.Endpoint endpoint) f h = rw (endpoint_read endpoint) refl
resolved_read (answers.Failed text) f h = refl
resolved_read answers.Absent f h = refl
resolved_read _ f h = absurd (cc)

transmitted_read : (a : Answer) → fits_transmit a ≡ true → answer_spellable a ≡ true → transmitted_at (answer_data a) ≡ Some a
unfolding transmitted_at connector_failed_at answer_data answer_spellable absence_at absent_at waiting_at starts first_says says tagged_at word_at
transmitted_read answers.Pending f h = refl
transmitted_read (answers.Response response) f h = rw (response_read response h) refl
transmitted_read (answers.ConnectorFailed kind text) f h = rw (connector_read kind) refl
transmitted_read answers.Absent f h = refl
transmitted_read _ f h = absurd (cc)

outcome_answer_read : (a : Answer) → fits_deserialize a ≡ true → answer_spellable a ≡ true → outcome_answer_at (answer_data a) ≡ Some a
unfolding outcome_answer_at answer_data answer_spellable absence_at absent_at waiting_at starts first_says says tagged_at word_at
outcome_answer_read (answers.Outcome outcome) f h = rw (outcome_read outcome h) refl
outcome_answer_read answers.Absent f h = refl
outcome_answer_read _ f h = absurd (cc)

streamed_read : (a : Answer) → fits_stream a ≡ true → answer_spellable a ≡ true → streamed_at (answer_data a) ≡ Some a
unfolding streamed_at outcome_answer_at answer_data answer_spellable absence_at absent_at waiting_at starts first_says says tagged_at word_at
streamed_read answers.NotStreaming f h = refl
streamed_read (answers.Outcome outcome) f h = rw (outcome_read outcome h) refl
streamed_read answers.Absent f h = refl
streamed_read _ f h = absurd (cc)

body_answer_read : (a : Answer) → fits_body a ≡ true → answer_spellable a ≡ true → body_read_at (answer_data a) ≡ Some a
unfolding body_read_at answer_data answer_spellable absence_at absent_at waiting_at starts first_says says tagged_at word_at
body_answer_read answers.Pending f h = refl
body_answer_read (answers.Read bytes) f h = rw (blob_read bytes h) refl
body_answer_read (answers.Failed text) f h = refl
body_answer_read answers.Absent f h = refl
body_answer_read _ f h = absurd (cc)

decided_read : (a : Answer) → fits_decide a ≡ true → answer_spellable a ≡ true → decided_at (answer_data a) ≡ Some a
unfolding decided_at answer_data answer_spellable absence_at absent_at waiting_at starts first_says says tagged_at word_at
decided_read (answers.Decided choice note) f h = choice_and_note choice note h
decided_read (answers.Failed text) f h = refl
decided_read answers.Absent f h = refl
decided_read _ f h = absurd (cc)

hooked_read : (a : Answer) → fits_hook a ≡ true → answer_spellable a ≡ true → (hook_answer_at (answer_data a) >>= λ h. Some (answers.Hooked h)) ≡ Some a
unfolding answer_data answer_spellable
hooked_read (answers.Hooked answer) f h = rw (hook_answer_read answer h) refl
hooked_read _ f h = absurd (cc)

abandoned_read : (a : Answer) → fits_abandon a ≡ true → answer_spellable a ≡ true → said_at (codes "Abandoned") answers.Abandoned (answer_data a) ≡ Some a
unfolding answer_data word_at
abandoned_read answers.Abandoned f h = refl
abandoned_read _ f h = absurd (cc)

parked_read : (a : Answer) → fits_park a ≡ true → answer_spellable a ≡ true → said_at (codes "Parked") answers.Parked (answer_data a) ≡ Some a
unfolding answer_data word_at
parked_read answers.Parked f h = refl
parked_read _ f h = absurd (cc)

pub answer_read : (k : Kind) (a : Answer) → fits k a ≡ true → answer_spellable a ≡ true → answer_at k (answer_data a) ≡ Some a
unfolding fits answer_at
answer_read (kinds.Configure stage) a f h = configured_read a f h
answer_read (kinds.Hook hook) a f h = hooked_read a f h
answer_read kinds.Serialize a f h = requested_read a f h
answer_read kinds.Load a f h = loaded_read a f h
answer_read kinds.Initial a f h = initial_read a f h
answer_read (kinds.Start role) a f h = started_read a f h
answer_read (kinds.Wait role) a f h = waited_read a f h
answer_read kinds.Choose a f h = choosing_read a f h
answer_read kinds.Endpoint a f h = resolved_read a f h
answer_read kinds.Apply a f h = requested_read a f h
answer_read kinds.Sign a f h = requested_read a f h
answer_read kinds.Transmit a f h = transmitted_read a f h
answer_read kinds.Stream a f h = streamed_read a f h
answer_read kinds.Body a f h = body_answer_read a f h
answer_read kinds.Deserialize a f h = outcome_answer_read a f h
answer_read kinds.Decide a f h = decided_read a f h
answer_read (kinds.Abandon what) a f h = abandoned_read a f h
answer_read kinds.Park a f h = parked_read a f h

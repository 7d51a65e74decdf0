-- Notes, answers of hooks, answers and kinds that are read have no float.
use Rattle.std.proofs.Common.{ℕ, ◌^◌, List, codes, ◌||◌}
use Rattle.serde_json.specs.Find.{as_str}
use Rattle.run_grammar.specs.declared.answer.Answer.{Answer}
use Rattle.run_grammar.specs.declared.kind.Kind.{Kind}
use Rattle.run_grammar.specs.declared.kind.Kind.TheVariants as kinds
use Rattle.json_forms.specs.Forms.{says, starts, word_at, tagged_at, optional_at, blob_at}
use Rattle.json_forms.specs.Plain.{number_at, number_below, triple_at, quadruple_at, quintuple_at, sextuple_at}
use Rattle.json_forms.specs.Reading.{◌>>=◌}
use Rattle.json_values.specs.AnswerReadings.{choose_note_at, choice_at, indicated_at, action_at, reason_at, sums_at, note_at, hooked_at, hook_answer_at, absent_at, absence_at, waiting_at, configured_at, requested_at, loaded_at, initial_at, started_at, waited_at, chosen_at, choosing_at, resolved_at, connector_failed_at, transmitted_at, outcome_answer_at, streamed_at, body_read_at, noted_at, plainly_decided_at, decided_at, said_at, answer_at, kind_at}
use Rattle.json_values.specs.Readings.{error_kind_at, connector_at, request_at, response_at, identity_at, endpoint_at, outcome_at, change_at}
use Rattle.json_values.specs.SettingReadings.{layer_at}
use Rattle.json_values.proofs.SpelledForms.{Holds, either, step}
use Rattle.laws_program.proofs.scripts.PlainForms.{Plain, Refuses, always, kept, part, said_or, str_plain, number_plain, below_plain, word_plain, triple_plain, quadruple_plain, quintuple_plain, sextuple_plain, tagged_plain, optional_plain, blob_plain}
use Rattle.laws_program.proofs.scripts.PlainSettings.{layer_plain}
use Rattle.laws_program.proofs.scripts.PlainValues.{error_kind_plain, connector_plain, request_plain, response_plain, identity_plain, endpoint_plain, outcome_plain, change_plain}

-- ---- notes

choose_note_plain : Refuses choose_note_at
unfolding choose_note_at
choose_note_plain d =
    said_or (codes "Hit") d _ _
    (said_or (codes "Load") d _ _ (kept (Plain d) (word_at (codes "Uncached") d) _ (word_plain (codes "Uncached") d)))

choice_plain : Refuses choice_at
unfolding choice_at
choice_plain d =
    said_or (codes "Yes") d _ _
    (said_or (codes "No") d _ _
    (either _ (starts (codes "NoAfter") d) _ _ (kept (Plain d) (tagged_at (codes "NoAfter") d >>= number_at) _ (tagged_plain (codes "NoAfter") number_at number_plain d))
    (kept (Plain d) (tagged_at (codes "Delay") d >>= number_at) _ (tagged_plain (codes "Delay") number_at number_plain d))))

indicated_plain : Refuses indicated_at
unfolding indicated_at Holds
indicated_plain d =
    step _ _ (triple_at d) _ (triple_plain d) (λ p whole.
    part (word_at (codes "RetryIndicated")) (word_plain (codes "RetryIndicated")) p.0 _ _ (λ h _.
    part error_kind_at error_kind_plain p.1 _ _ (λ i k.
    part (optional_at number_at) (optional_plain number_at number_plain) p.2 _ _ (λ j a. whole h i j))))

action_plain : Refuses action_at
unfolding action_at
action_plain d = said_or (codes "NoActionIndicated") d _ _ (said_or (codes "RetryForbidden") d _ _ (indicated_plain d))

reason_plain : Refuses reason_at
unfolding reason_at
reason_plain d =
    said_or (codes "NotIndicated") d _ _
    (said_or (codes "OutOfAttempts") d _ _
    (either _ (starts (codes "NoQuota") d) _ _ (kept (Plain d) (tagged_at (codes "NoQuota") d >>= number_below (2 ^ 32)) _ (tagged_plain (codes "NoQuota") (number_below (2 ^ 32)) (below_plain (2 ^ 32)) d))
    (kept (Plain d) (tagged_at (codes "Granted") d >>= number_below (2 ^ 32)) _ (tagged_plain (codes "Granted") (number_below (2 ^ 32)) (below_plain (2 ^ 32)) d))))

sums_plain : Refuses sums_at
unfolding sums_at Holds
sums_plain d =
    step _ _ (quintuple_at d) _ (quintuple_plain d) (λ p whole.
    part number_at number_plain p.0 _ _ (λ h c.
    part number_at number_plain p.1 _ _ (λ i g.
    part number_at number_plain p.2 _ _ (λ j a.
    part number_at number_plain p.3 _ _ (λ k t.
    part number_at number_plain p.4 _ _ (λ l f. whole h i j k l))))))

note_plain : Refuses note_at
unfolding note_at Holds
note_plain d =
    step _ _ (quintuple_at d) _ (quintuple_plain d) (λ p whole.
    part action_at action_plain p.0 _ _ (λ h v.
    part (optional_at number_at) (optional_plain number_at number_plain) p.1 _ _ (λ i m.
    part number_at number_plain p.2 _ _ (λ j w.
    part reason_at reason_plain p.3 _ _ (λ k r.
    part (optional_at sums_at) (optional_plain sums_at sums_plain) p.4 _ _ (λ l s. whole h i j k l))))))

-- ---- answers of hooks

hooked_plain : Refuses hooked_at
unfolding hooked_at Holds
hooked_plain d =
    step _ _ (quadruple_at d) _ (quadruple_plain d) (λ p whole.
    part (word_at (codes "Hook")) (word_plain (codes "Hook")) p.0 _ _ (λ h _.
    part (optional_at change_at) (optional_plain change_at change_plain) p.1 _ _ (λ i c.
    part layer_at layer_plain p.2 _ _ (λ j l.
    part (optional_at as_str) (optional_plain as_str str_plain) p.3 _ _ (λ k t. always (Plain d) _ (whole h i j k))))))

hook_answer_plain : Refuses hook_answer_at
unfolding hook_answer_at
hook_answer_plain d = said_or (codes "Done") d _ _ (hooked_plain d)

-- ---- answers

absent_plain : Refuses absent_at
unfolding absent_at
absent_plain d = kept (Plain d) (word_at (codes "Absent") d) _ (word_plain (codes "Absent") d)

absence_plain : Refuses absence_at
unfolding absence_at
absence_plain d =
    either _ (starts (codes "Failed") d) _ _ (kept (Plain d) (tagged_at (codes "Failed") d >>= as_str) _ (tagged_plain (codes "Failed") as_str str_plain d)) (absent_plain d)

waiting_plain : Refuses waiting_at
unfolding waiting_at
waiting_plain d = said_or (codes "Pending") d _ _ (absence_plain d)

configured_plain : Refuses configured_at
unfolding configured_at
configured_plain d =
    either _ (starts (codes "Layer") d) _ _ (kept (Plain d) (tagged_at (codes "Layer") d >>= layer_at) _ (tagged_plain (codes "Layer") layer_at layer_plain d)) (absence_plain d)

requested_plain : Refuses requested_at
unfolding requested_at
requested_plain d =
    either _ (starts (codes "Request") d) _ _ (kept (Plain d) (tagged_at (codes "Request") d >>= request_at) _ (tagged_plain (codes "Request") request_at request_plain d)) (absence_plain d)

loaded_plain : Refuses loaded_at
unfolding loaded_at
loaded_plain d =
    either _ (starts (codes "Loaded") d) _ _ (kept (Plain d) (tagged_at (codes "Loaded") d >>= blob_at) _ (tagged_plain (codes "Loaded") blob_at blob_plain d)) (waiting_plain d)

initial_plain : Refuses initial_at
unfolding initial_at
initial_plain d =
    said_or (codes "Go") d _ _
    (said_or (codes "No") d _ _
    (either _ (starts (codes "Delay") d) _ _ (kept (Plain d) (tagged_at (codes "Delay") d >>= number_at) _ (tagged_plain (codes "Delay") number_at number_plain d)) (absence_plain d)))

started_plain : Refuses started_at
unfolding started_at
started_plain d = said_or (codes "Started") d _ _ (absent_plain d)

waited_plain : Refuses waited_at
unfolding waited_at
waited_plain d = said_or (codes "Pending") d _ _ (kept (Plain d) (word_at (codes "Ready") d) _ (word_plain (codes "Ready") d))

chosen_plain : Refuses chosen_at
unfolding chosen_at Holds
chosen_plain d =
    step _ _ (sextuple_at d) _ (sextuple_plain d) (λ p whole.
    part (word_at (codes "Chosen")) (word_plain (codes "Chosen")) p.0 _ _ (λ h _.
    part as_str str_plain p.1 _ _ (λ i s.
    part identity_at identity_plain p.2 _ _ (λ j c.
    part (optional_at endpoint_at) (optional_plain endpoint_at endpoint_plain) p.3 _ _ (λ k e.
    part layer_at layer_plain p.4 _ _ (λ l y.
    part (optional_at choose_note_at) (optional_plain choose_note_at choose_note_plain) p.5 _ _ (λ m n. whole h i j k l m)))))))

choosing_plain : Refuses choosing_at
unfolding choosing_at
choosing_plain d = either _ (starts (codes "Chosen") d) _ _ (kept (Plain d) (chosen_at d) _ (chosen_plain d)) (waiting_plain d)

resolved_plain : Refuses resolved_at
unfolding resolved_at
resolved_plain d =
    either _ (starts (codes "Endpoint") d) _ _ (kept (Plain d) (tagged_at (codes "Endpoint") d >>= endpoint_at) _ (tagged_plain (codes "Endpoint") endpoint_at endpoint_plain d)) (waiting_plain d)

connector_failed_plain : Refuses connector_failed_at
unfolding connector_failed_at Holds
connector_failed_plain d =
    step _ _ (triple_at d) _ (triple_plain d) (λ p whole.
    part (word_at (codes "Failed")) (word_plain (codes "Failed")) p.0 _ _ (λ h _.
    part connector_at connector_plain p.1 _ _ (λ i k.
    part as_str str_plain p.2 _ _ (λ j t. whole h i j))))

transmitted_plain : Refuses transmitted_at
unfolding transmitted_at
transmitted_plain d =
    said_or (codes "Pending") d _ _
    (either _ (starts (codes "Response") d) _ _ (kept (Plain d) (tagged_at (codes "Response") d >>= response_at) _ (tagged_plain (codes "Response") response_at response_plain d))
    (either _ (starts (codes "Failed") d) _ _ (connector_failed_plain d) (absent_plain d)))

outcome_answer_plain : Refuses outcome_answer_at
unfolding outcome_answer_at
outcome_answer_plain d =
    either _ (starts (codes "Outcome") d) _ _ (kept (Plain d) (tagged_at (codes "Outcome") d >>= outcome_at) _ (tagged_plain (codes "Outcome") outcome_at outcome_plain d)) (absent_plain d)

streamed_plain : Refuses streamed_at
unfolding streamed_at
streamed_plain d = said_or (codes "NotStreaming") d _ _ (outcome_answer_plain d)

body_read_plain : Refuses body_read_at
unfolding body_read_at
body_read_plain d =
    either _ (starts (codes "Read") d) _ _ (kept (Plain d) (tagged_at (codes "Read") d >>= blob_at) _ (tagged_plain (codes "Read") blob_at blob_plain d)) (waiting_plain d)

noted_plain : Refuses noted_at
unfolding noted_at Holds
noted_plain d =
    step _ _ (triple_at d) _ (triple_plain d) (λ p whole.
    part (word_at (codes "Noted")) (word_plain (codes "Noted")) p.0 _ _ (λ h _.
    part choice_at choice_plain p.1 _ _ (λ i c.
    part note_at note_plain p.2 _ _ (λ j n. whole h i j))))

decided_plain : Refuses decided_at
unfolding decided_at plainly_decided_at
decided_plain d =
    either _ (starts (codes "Noted") d) _ _ (noted_plain d)
    (either _ (starts (codes "Failed") d || says (codes "Absent") d) _ _ (absence_plain d) (kept (Plain d) (choice_at d) _ (choice_plain d)))

said_plain : (word : List ℕ) (a : Answer) → Refuses (said_at word a)
said_plain word a d = kept (Plain d) (word_at word d) _ (word_plain word d)

pub answer_plain : (k : Kind) → Refuses (answer_at k)
unfolding answer_at
answer_plain (kinds.Configure stage) d = configured_plain d
answer_plain (kinds.Hook hook) d = kept (Plain d) (hook_answer_at d) _ (hook_answer_plain d)
answer_plain kinds.Serialize d = requested_plain d
answer_plain kinds.Load d = loaded_plain d
answer_plain kinds.Initial d = initial_plain d
answer_plain (kinds.Start role) d = started_plain d
answer_plain (kinds.Wait role) d = waited_plain d
answer_plain kinds.Choose d = choosing_plain d
answer_plain kinds.Endpoint d = resolved_plain d
answer_plain kinds.Apply d = requested_plain d
answer_plain kinds.Sign d = requested_plain d
answer_plain kinds.Transmit d = transmitted_plain d
answer_plain kinds.Stream d = streamed_plain d
answer_plain kinds.Body d = body_read_plain d
answer_plain kinds.Deserialize d = outcome_answer_plain d
answer_plain kinds.Decide d = decided_plain d
answer_plain (kinds.Abandon what) d = said_plain _ _ d
answer_plain kinds.Park d = said_plain _ _ d

pub kind_plain : Refuses kind_at
unfolding kind_at
kind_plain d = kept (Plain d) (as_str d) _ (str_plain d)

-- Answers that are read fit their question and can be spelled.
use Rattle.std.proofs.Common.{◌≡◌, ℕ, ◌^◌, List, codes, true, ◌||◌, Some, refl}
use Rattle.std.proofs.lemmas.Bool.{and_from}
use Rattle.serde_json.specs.Data.{Data}
use Rattle.serde_json.specs.Find.{as_str}
use Rattle.smithy_types.specs.declared.fault.Outcome.{Outcome}
use Rattle.smithy_types.specs.declared.hook.Hook.{Hook}
use Rattle.smithy_context.specs.declared.intercept.HookAnswer.{HookAnswer}
use Rattle.run_grammar.specs.Fits.{fits}
use Rattle.run_grammar.specs.declared.answer.Answer.{Answer}
use Rattle.run_grammar.specs.declared.answer.Answer.TheVariants as answers
use Rattle.run_grammar.specs.declared.kind.Abandonable.{Abandonable}
use Rattle.run_grammar.specs.declared.kind.ConfigureStage.{ConfigureStage}
use Rattle.run_grammar.specs.declared.kind.Kind.{Kind}
use Rattle.run_grammar.specs.declared.kind.Kind.TheVariants as kinds
use Rattle.run_grammar.specs.declared.kind.Role.{Role}
use Rattle.json_values.specs.AnswerReadings.{choice_at, action_at, reason_at, sums_at, note_at, done, hooked_at, hook_answer_at, absent_at, absence_at, waiting_at, configured_at, requested_at, loaded_at, initial_at, started_at, waited_at, chosen_at, choose_note_at, choosing_at, resolved_at, connector_failed_at, transmitted_at, outcome_answer_at, streamed_at, body_read_at, noted_at, plainly_decided_at, decided_at, said_at, answer_at}
use Rattle.json_forms.specs.Forms.{says, starts, word_at, tagged_at, optional_at, blob_at}
use Rattle.json_forms.specs.Plain.{number_at, number_below, triple_at, quadruple_at, quintuple_at, sextuple_at}
use Rattle.json_forms.specs.Reading.{◌>>=◌}
use Rattle.json_values.specs.Readings.{connector_at, request_at, response_at, identity_at, endpoint_at, outcome_at, change_at}
use Rattle.json_values.specs.SettingReadings.{layer_at}
use Rattle.json_values.specs.Spellable.{none_or, bytes_spellable, outcome_spellable, change_spellable, layer_spellable, hook_answer_spellable, reason_spellable, note_spellable, chosen_spellable, answer_spellable}
use Rattle.json_values.specs.Values.{does_nothing}
use Rattle.json_values.proofs.SpelledForms.{Holds, step, past, either, OfBytes, quadruple_of_bytes, sextuple_of_bytes, tagged_holds, number_within, blob_spelled, optional_spelled}
use Rattle.json_values.proofs.SpelledHeads.{request_spelled, response_spelled}
use Rattle.json_values.proofs.SpelledLayers.{layer_spelled}
use Rattle.json_values.proofs.SpelledOutcomes.{identity_spelled, outcome_spelled, change_spelled}

-- ---- notes

reason_spelled : (d : Data) → Holds (λ r. reason_spellable r ≡ true) (reason_at d)
unfolding reason_at Holds reason_spellable
reason_spelled d =
    either _ (says (codes "NotIndicated") d) _ _ refl
    (either _ (says (codes "OutOfAttempts") d) _ _ refl
    (either _ (starts (codes "NoQuota") d) _ _
    (step _ _ (tagged_at (codes "NoQuota") d >>= number_below (2 ^ 32)) _ (past _ (tagged_at (codes "NoQuota") d) (number_below (2 ^ 32)) (number_within (2 ^ 32))) (λ n hn. hn))
    (step _ _ (tagged_at (codes "Granted") d >>= number_below (2 ^ 32)) _ (past _ (tagged_at (codes "Granted") d) (number_below (2 ^ 32)) (number_within (2 ^ 32))) (λ n hn. hn))))

note_spelled : (d : Data) → Holds (λ n. note_spellable n ≡ true) (note_at d)
unfolding note_at Holds
note_spelled d =
    past _ (quintuple_at d) _ (λ p.
    past _ (action_at p.0) _ (λ v.
    past _ (optional_at number_at p.1) _ (λ m.
    past _ (number_at p.2) _ (λ w.
    step _ _ (reason_at p.3) _ (reason_spelled p.3) (λ r hr.
    past _ (optional_at sums_at p.4) _ (λ s. hr))))))

-- ---- answers of hooks

hooked_spelled : (d : Data) → OfBytes d → Holds (λ a. hook_answer_spellable a ≡ true) (hooked_at d)
unfolding hooked_at Holds hook_answer_spellable
hooked_spelled d h =
    step _ _ (quadruple_at d) _ (quadruple_of_bytes d h) (λ p hp.
    past _ (word_at (codes "Hook") p.0) _ (λ _.
    step _ _ (optional_at change_at p.1) _ (optional_spelled change_spellable change_at p.1 (change_spelled p.1 hp.1)) (λ c hc.
    step _ _ (layer_at p.2) _ (layer_spelled p.2 hp.2) (λ l hl.
    past _ (optional_at as_str p.3) _ (λ t.
    let a : HookAnswer = record { change = c; settings = l; failure = t } in
    either _ (does_nothing a) _ _ tt (and_from (none_or change_spellable c) (layer_spellable l) hc hl))))))

done_spellable : hook_answer_spellable done ≡ true
unfolding hook_answer_spellable layer_spellable
done_spellable = refl

hook_answer_spelled : (d : Data) → OfBytes d → Holds (λ a. hook_answer_spellable a ≡ true) (hook_answer_at d)
unfolding hook_answer_at Holds
hook_answer_spelled d h = either _ (says (codes "Done") d) _ _ done_spellable (hooked_spelled d h)

-- ---- choices of an auth scheme

chosen_spelled : (d : Data) → OfBytes d → Holds (λ c. chosen_spellable c ≡ true) (chosen_at d)
unfolding chosen_at Holds chosen_spellable
chosen_spelled d h =
    step _ _ (sextuple_at d) _ (sextuple_of_bytes d h) (λ p hp.
    past _ (word_at (codes "Chosen") p.0) _ (λ _.
    past _ (as_str p.1) _ (λ s.
    step _ _ (identity_at p.2) _ (identity_spelled p.2 hp.2) (λ i hi.
    past _ (optional_at endpoint_at p.3) _ (λ e.
    step _ _ (layer_at p.4) _ (layer_spelled p.4 hp.4) (λ l hl.
    past _ (optional_at choose_note_at p.5) _ (λ n. and_from (bytes_spellable i.content) (layer_spellable l) hi hl)))))))

-- ---- answers

-- it fits the kind, and can be spelled
abbrev pub Fitting : Kind → Answer → Type 0
Fitting k a = (fits k a ≡ true) × (answer_spellable a ≡ true)

absent_holds : (P : Answer → Type 0) → P answers.Absent → (d : Data) → Holds P (absent_at d)
unfolding absent_at Holds
absent_holds P a d = past P (word_at (codes "Absent") d) _ (λ _. a)

absence_holds : (P : Answer → Type 0) → ((t : List ℕ) → P (answers.Failed t)) → P answers.Absent → (d : Data) → Holds P (absence_at d)
unfolding absence_at Holds
absence_holds P f a d = either P (starts (codes "Failed") d) _ _ (past P (tagged_at (codes "Failed") d >>= as_str) _ f) (absent_holds P a d)

waiting_holds : (P : Answer → Type 0) → P answers.Pending → ((t : List ℕ) → P (answers.Failed t)) → P answers.Absent → (d : Data) → Holds P (waiting_at d)
unfolding waiting_at Holds
waiting_holds P p f a d = either P (says (codes "Pending") d) _ _ p (absence_holds P f a d)

configured_fits : (s : ConfigureStage) → (d : Data) → OfBytes d → Holds (Fitting (kinds.Configure s)) (configured_at d)
unfolding configured_at Holds fits answer_spellable
configured_fits s d h =
    either _ (starts (codes "Layer") d) _ _
    (step _ _ (tagged_at (codes "Layer") d >>= layer_at) _ (tagged_holds _ (codes "Layer") layer_at d h layer_spelled) (λ x hx. (refl, hx)))
    (absence_holds _ (λ t. (refl, refl)) (refl, refl) d)

serialized_fits : (d : Data) → OfBytes d → Holds (Fitting kinds.Serialize) (requested_at d)
unfolding requested_at Holds fits answer_spellable
serialized_fits d h =
    either _ (starts (codes "Request") d) _ _
    (step _ _ (tagged_at (codes "Request") d >>= request_at) _ (tagged_holds _ (codes "Request") request_at d h request_spelled) (λ x hx. (refl, hx)))
    (absence_holds _ (λ t. (refl, refl)) (refl, refl) d)

applied_fits : (d : Data) → OfBytes d → Holds (Fitting kinds.Apply) (requested_at d)
unfolding requested_at Holds fits answer_spellable
applied_fits d h =
    either _ (starts (codes "Request") d) _ _
    (step _ _ (tagged_at (codes "Request") d >>= request_at) _ (tagged_holds _ (codes "Request") request_at d h request_spelled) (λ x hx. (refl, hx)))
    (absence_holds _ (λ t. (refl, refl)) (refl, refl) d)

signed_fits : (d : Data) → OfBytes d → Holds (Fitting kinds.Sign) (requested_at d)
unfolding requested_at Holds fits answer_spellable
signed_fits d h =
    either _ (starts (codes "Request") d) _ _
    (step _ _ (tagged_at (codes "Request") d >>= request_at) _ (tagged_holds _ (codes "Request") request_at d h request_spelled) (λ x hx. (refl, hx)))
    (absence_holds _ (λ t. (refl, refl)) (refl, refl) d)

loaded_fits : (d : Data) → OfBytes d → Holds (Fitting kinds.Load) (loaded_at d)
unfolding loaded_at Holds fits answer_spellable
loaded_fits d h =
    either _ (starts (codes "Loaded") d) _ _
    (step _ _ (tagged_at (codes "Loaded") d >>= blob_at) _ (tagged_holds _ (codes "Loaded") blob_at d h blob_spelled) (λ x hx. (refl, hx)))
    (waiting_holds _ (refl, refl) (λ t. (refl, refl)) (refl, refl) d)

initial_fits : (d : Data) → OfBytes d → Holds (Fitting kinds.Initial) (initial_at d)
unfolding initial_at Holds fits answer_spellable
initial_fits d h =
    either _ (says (codes "Go") d) _ _ (refl, refl)
    (either _ (says (codes "No") d) _ _ (refl, refl)
    (either _ (starts (codes "Delay") d) _ _ (past _ (tagged_at (codes "Delay") d >>= number_at) _ (λ n. (refl, refl)))
    (absence_holds _ (λ t. (refl, refl)) (refl, refl) d)))

started_fits : (r : Role) → (d : Data) → OfBytes d → Holds (Fitting (kinds.Start r)) (started_at d)
unfolding started_at Holds fits answer_spellable
started_fits r d h =
    either _ (says (codes "Started") d) _ _ (refl, refl)
    (absent_holds _ (refl, refl) d)

waited_fits : (r : Role) → (d : Data) → OfBytes d → Holds (Fitting (kinds.Wait r)) (waited_at d)
unfolding waited_at Holds fits answer_spellable
waited_fits r d h =
    either _ (says (codes "Pending") d) _ _ (refl, refl)
    (past _ (word_at (codes "Ready") d) _ (λ _. (refl, refl)))

choosing_fits : (d : Data) → OfBytes d → Holds (Fitting kinds.Choose) (choosing_at d)
unfolding choosing_at Holds fits answer_spellable
choosing_fits d h =
    either _ (starts (codes "Chosen") d) _ _
    (step _ _ (chosen_at d) _ (chosen_spelled d h) (λ c hc. (refl, hc)))
    (waiting_holds _ (refl, refl) (λ t. (refl, refl)) (refl, refl) d)

resolved_fits : (d : Data) → OfBytes d → Holds (Fitting kinds.Endpoint) (resolved_at d)
unfolding resolved_at Holds fits answer_spellable
resolved_fits d h =
    either _ (starts (codes "Endpoint") d) _ _
    (past _ (tagged_at (codes "Endpoint") d >>= endpoint_at) _ (λ e. (refl, refl)))
    (waiting_holds _ (refl, refl) (λ t. (refl, refl)) (refl, refl) d)

connector_failed_fits : (d : Data) → Holds (Fitting kinds.Transmit) (connector_failed_at d)
unfolding connector_failed_at Holds fits answer_spellable
connector_failed_fits d =
    past _ (triple_at d) _ (λ p.
    past _ (word_at (codes "Failed") p.0) _ (λ _.
    past _ (connector_at p.1) _ (λ k.
    past _ (as_str p.2) _ (λ t. (refl, refl)))))

transmitted_fits : (d : Data) → OfBytes d → Holds (Fitting kinds.Transmit) (transmitted_at d)
unfolding transmitted_at Holds fits answer_spellable
transmitted_fits d h =
    either _ (says (codes "Pending") d) _ _ (refl, refl)
    (either _ (starts (codes "Response") d) _ _
    (step _ _ (tagged_at (codes "Response") d >>= response_at) _ (tagged_holds _ (codes "Response") response_at d h response_spelled) (λ x hx. (refl, hx)))
    (either _ (starts (codes "Failed") d) _ _ (connector_failed_fits d)
    (absent_holds _ (refl, refl) d)))

outcome_holds : (P : Answer → Type 0) → ((o : Outcome) → outcome_spellable o ≡ true → P (answers.Outcome o)) → P answers.Absent → (d : Data) → OfBytes d → Holds P (outcome_answer_at d)
unfolding outcome_answer_at Holds
outcome_holds P o a d h =
    either _ (starts (codes "Outcome") d) _ _
    (step _ _ (tagged_at (codes "Outcome") d >>= outcome_at) _ (tagged_holds _ (codes "Outcome") outcome_at d h outcome_spelled) o)
    (absent_holds P a d)

streamed_fits : (d : Data) → OfBytes d → Holds (Fitting kinds.Stream) (streamed_at d)
unfolding streamed_at Holds fits answer_spellable
streamed_fits d h = either _ (says (codes "NotStreaming") d) _ _ (refl, refl) (outcome_holds _ (λ o ho. (refl, ho)) (refl, refl) d h)

deserialized_fits : (d : Data) → OfBytes d → Holds (Fitting kinds.Deserialize) (outcome_answer_at d)
unfolding fits answer_spellable
deserialized_fits d h = outcome_holds _ (λ o ho. (refl, ho)) (refl, refl) d h

body_fits : (d : Data) → OfBytes d → Holds (Fitting kinds.Body) (body_read_at d)
unfolding body_read_at Holds fits answer_spellable
body_fits d h =
    either _ (starts (codes "Read") d) _ _
    (step _ _ (tagged_at (codes "Read") d >>= blob_at) _ (tagged_holds _ (codes "Read") blob_at d h blob_spelled) (λ x hx. (refl, hx)))
    (waiting_holds _ (refl, refl) (λ t. (refl, refl)) (refl, refl) d)

noted_fits : (d : Data) → Holds (Fitting kinds.Decide) (noted_at d)
unfolding noted_at Holds fits answer_spellable
noted_fits d =
    past _ (triple_at d) _ (λ p.
    past _ (word_at (codes "Noted") p.0) _ (λ _.
    past _ (choice_at p.1) _ (λ c.
    step _ _ (note_at p.2) _ (note_spelled p.2) (λ n hn. (refl, hn)))))

plainly_decided_fits : (d : Data) → Holds (Fitting kinds.Decide) (plainly_decided_at d)
unfolding plainly_decided_at Holds fits answer_spellable
plainly_decided_fits d = past _ (choice_at d) _ (λ c. (refl, refl))

decided_fits : (d : Data) → Holds (Fitting kinds.Decide) (decided_at d)
unfolding decided_at fits answer_spellable
decided_fits d =
    either _ (starts (codes "Noted") d) _ _ (noted_fits d)
    (either _ (starts (codes "Failed") d || says (codes "Absent") d) _ _
    (absence_holds _ (λ t. (refl, refl)) (refl, refl) d)
    (plainly_decided_fits d))

hooked_fits : (hook : Hook) (d : Data) → OfBytes d → Holds (Fitting (kinds.Hook hook)) (hook_answer_at d >>= λ a. Some (answers.Hooked a))
unfolding Holds fits answer_spellable
hooked_fits hook d h = step _ _ (hook_answer_at d) _ (hook_answer_spelled d h) (λ a ha. (refl, ha))

abandoned_fits : (what : Abandonable) (d : Data) → Holds (Fitting (kinds.Abandon what)) (said_at (codes "Abandoned") answers.Abandoned d)
unfolding Holds fits answer_spellable
abandoned_fits what d = past _ (word_at (codes "Abandoned") d) _ (λ _. (refl, refl))

parked_fits : (d : Data) → Holds (Fitting kinds.Park) (said_at (codes "Parked") answers.Parked d)
unfolding Holds fits answer_spellable
parked_fits d = past _ (word_at (codes "Parked") d) _ (λ _. (refl, refl))

pub answer_fits : (k : Kind) (d : Data) → OfBytes d → Holds (Fitting k) (answer_at k d)
unfolding answer_at
answer_fits (kinds.Configure stage) d h = configured_fits stage d h
answer_fits (kinds.Hook hook) d h = hooked_fits hook d h
answer_fits kinds.Serialize d h = serialized_fits d h
answer_fits kinds.Load d h = loaded_fits d h
answer_fits kinds.Initial d h = initial_fits d h
answer_fits (kinds.Start role) d h = started_fits role d h
answer_fits (kinds.Wait role) d h = waited_fits role d h
answer_fits kinds.Choose d h = choosing_fits d h
answer_fits kinds.Endpoint d h = resolved_fits d h
answer_fits kinds.Apply d h = applied_fits d h
answer_fits kinds.Sign d h = signed_fits d h
answer_fits kinds.Transmit d h = transmitted_fits d h
answer_fits kinds.Stream d h = streamed_fits d h
answer_fits kinds.Body d h = body_fits d h
answer_fits kinds.Deserialize d h = deserialized_fits d h
answer_fits kinds.Decide d h = decided_fits d
answer_fits (kinds.Abandon what) d h = abandoned_fits what d
answer_fits kinds.Park d h = parked_fits d

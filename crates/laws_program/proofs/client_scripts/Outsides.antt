-- Responses, sources of identities and words that are read have no float.
use Rattle.std.proofs.Common.{◌^◌, codes, Option, Some, None}
use Rattle.serde_json.specs.Data.{Data}
use Rattle.serde_json.specs.Find.{as_bool, as_str}
use Rattle.json_forms.specs.Forms.{blob_at, optional_at, word_at}
use Rattle.json_forms.specs.Plain.{number_at, number_below, pair_at, sextuple_at, triple_at}
use Rattle.json_values.specs.Readings.{connector_at, headers_at, identity_at}
use Rattle.json_values.specs.SettingReadings.{or_read}
use Rattle.json_values.proofs.SpelledForms.{Holds, past, step}
use Rattle.json_scripts.specs.Records.Identities.{failed_identity_at, identity_answer_at, identity_record_at, loaded_at, sources_at}
use Rattle.json_scripts.specs.Records.Responses.{answered_record_at, failed_record_at, frame_at, frames_at, may_repeat, records_at, response_at, response_record_at}
use Rattle.json_scripts.specs.Words.{words_at}
use Rattle.laws_program.proofs.scripts.PlainForms.{Plain, Refuses, below_plain, blob_plain, bool_plain, kept, number_plain, optional_plain, pair_plain, part, rows_plain, sextuple_plain, str_plain, triple_plain, word_plain}
use Rattle.laws_program.proofs.scripts.PlainValues.{connector_plain, headers_plain, identity_plain}

-- one of two readings
or_plain : {X : Type 0} (d : Data) (o r : Option X) → Holds (λ (x : X). Plain d) o → Holds (λ (x : X). Plain d) r → Holds (λ (x : X). Plain d) (or_read o r)
or_plain d None r h k = k
or_plain d (Some x) r h k = h

-- ---- responses

frame_plain : Refuses frame_at
unfolding frame_at Holds
frame_plain d =
    step _ _ (pair_at d) _ (pair_plain d) (λ p whole.
    part number_at number_plain p.0 _ _ (λ h n.
    part blob_at blob_plain p.1 _ _ (λ i b. whole h i)))

frames_plain : Refuses frames_at
unfolding frames_at
frames_plain d = rows_plain frame_at frame_plain d

failed_record_plain : Refuses failed_record_at
unfolding failed_record_at Holds
failed_record_plain d =
    step _ _ (pair_at d) _ (pair_plain d) (λ p whole.
    part number_at number_plain p.0 _ _ (λ h n.
    step _ _ (triple_at p.1) _ (triple_plain p.1) (λ f inner.
    part (word_at (codes "Failed")) (word_plain (codes "Failed")) f.0 _ _ (λ i _.
    part connector_at connector_plain f.1 _ _ (λ j k.
    part as_str str_plain f.2 _ _ (λ l t. whole h (inner i j l)))))))

-- each of its five parts
response_plain : (s h f r c : Data) → Holds (λ _. Plain s × Plain h × Plain f × Plain r × Plain c) (response_at s h f r c)
unfolding response_at Holds
response_plain s h f r c =
    part (number_below (2 ^ 16)) (below_plain (2 ^ 16)) s _ _ (λ status _.
    part as_bool bool_plain r _ _ (λ repeat b.
    part (optional_at number_at) (optional_plain number_at number_plain) c _ _ (λ clock _.
    part headers_at headers_plain h _ _ (λ headers _.
    part frames_at frames_plain f _ _ (λ frames fs.
    past _ (may_repeat b fs) _ (λ _. (status, headers, frames, repeat, clock)))))))

answered_record_plain : Refuses answered_record_at
unfolding answered_record_at Holds
answered_record_plain d =
    step _ _ (sextuple_at d) _ (sextuple_plain d) (λ p whole.
    part number_at number_plain p.0 _ _ (λ h n.
    step _ _ (response_at p.1 p.2 p.3 p.4 p.5) _ (response_plain p.1 p.2 p.3 p.4 p.5) (λ r parts.
    whole h parts.0 parts.1 parts.2 parts.3 parts.4)))

response_record_plain : Refuses response_record_at
unfolding response_record_at
response_record_plain d = or_plain d (failed_record_at d) (answered_record_at d) (failed_record_plain d) (answered_record_plain d)

pub records_plain : Refuses records_at
unfolding records_at
records_plain d = rows_plain response_record_at response_record_plain d

-- ---- sources of identities

failed_identity_plain : Refuses failed_identity_at
unfolding failed_identity_at Holds
failed_identity_plain d =
    step _ _ (pair_at d) _ (pair_plain d) (λ p whole.
    part (word_at (codes "Failed")) (word_plain (codes "Failed")) p.0 _ _ (λ h _.
    part as_str str_plain p.1 _ _ (λ i t. whole h i)))

loaded_plain : Refuses loaded_at
unfolding loaded_at
loaded_plain d = kept (Plain d) (identity_at d) _ (identity_plain d)

identity_answer_plain : Refuses identity_answer_at
unfolding identity_answer_at
identity_answer_plain d = or_plain d (failed_identity_at d) (loaded_at d) (failed_identity_plain d) (loaded_plain d)

identity_record_plain : Refuses identity_record_at
unfolding identity_record_at Holds
identity_record_plain d =
    step _ _ (triple_at d) _ (triple_plain d) (λ p whole.
    part number_at number_plain p.1 _ _ (λ i n.
    part as_str str_plain p.0 _ _ (λ h t.
    part identity_answer_at identity_answer_plain p.2 _ _ (λ j a. whole h i j))))

pub sources_plain : Refuses sources_at
unfolding sources_at
sources_plain d = rows_plain identity_record_at identity_record_plain d

-- ---- words

pub words_plain : Refuses words_at
unfolding words_at
words_plain d = rows_plain number_at number_plain d

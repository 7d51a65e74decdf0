-- Which responses a script spells.
use Rattle.std.specs.Prelude.{◌^◌, List, Bool, ◌&&◌, ◌==◌, Option, Some, None, codes, length, if◌then◌else◌}
use Rattle.serde_json.specs.Data.{Data}
use Rattle.serde_json.specs.Find.{as_bool, as_str, as_array}
use Rattle.outside_scripted.specs.declared.records.Frame.{Frame}
use Rattle.outside_scripted.specs.declared.records.RecordAnswer.TheVariants as given
use Rattle.outside_scripted.specs.declared.records.ResponseRecord.{ResponseRecord}
use Rattle.outside_scripted.specs.declared.records.ScriptedResponse.{ScriptedResponse}
use Rattle.json_forms.specs.Forms.{word_at, optional_at, blob_at}
use Rattle.json_forms.specs.Lists.{list_of}
use Rattle.json_forms.specs.Plain.{number_at, number_below, pair_at, triple_at, sextuple_at}
use Rattle.json_forms.specs.Reading.{◌>>=◌}
use Rattle.json_values.specs.Readings.{connector_at, headers_at}
use Rattle.json_values.specs.SettingReadings.{or_read}

-- a delay and bytes
unfoldable pub frame_at : Data → Option Frame
frame_at d = pair_at d >>= λ p. number_at p.0 >>= λ n. blob_at p.1 >>= λ b. Some (record { delay = n; bytes = b })

-- the frames of a body
unfoldable pub frames_at : Data → Option (List Frame)
frames_at d = as_array d >>= list_of frame_at

-- a delay, and a failure of the connector with its text
unfoldable pub failed_record_at : Data → Option ResponseRecord
failed_record_at d = pair_at d >>= λ p. number_at p.0 >>= λ n. triple_at p.1 >>= λ f.
    word_at (codes "Failed") f.0 >>= λ _. connector_at f.1 >>= λ k. as_str f.2 >>= λ t.
    Some (record { delay = n; answer = given.Failed k t })

-- an empty list of frames can't begin again
unfoldable pub may_repeat : Bool → List Frame → Option (Unit {0})
may_repeat r fs = if r && (length fs == 0) then None else Some tt

-- a status, headers, frames, whether they begin again, and a moment or null
unfoldable pub response_at : Data → Data → Data → Data → Data → Option ScriptedResponse
response_at status headers frames repeat clock =
    number_below (2 ^ 16) status >>= λ s. as_bool repeat >>= λ r. optional_at number_at clock >>= λ c.
    headers_at headers >>= λ h. frames_at frames >>= λ fs. may_repeat r fs >>= λ _.
    Some (record { status = s; headers = h; frames = fs; repeat = r; clock = c })

-- a delay, and a response
unfoldable pub answered_record_at : Data → Option ResponseRecord
answered_record_at d = sextuple_at d >>= λ p. number_at p.0 >>= λ n. response_at p.1 p.2 p.3 p.4 p.5 >>= λ r.
    Some (record { delay = n; answer = given.Response r })

-- what the connector answers: a failure, or a response
unfoldable pub response_record_at : Data → Option ResponseRecord
response_record_at d = or_read (failed_record_at d) (answered_record_at d)

-- what the connector answers, one call after another
unfoldable pub records_at : Data → Option (List ResponseRecord)
records_at d = as_array d >>= list_of response_record_at

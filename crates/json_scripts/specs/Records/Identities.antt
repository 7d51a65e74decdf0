-- Which sources of identities a script spells.
use Rattle.std.specs.Prelude.{List, Option, Some, codes}
use Rattle.serde_json.specs.Data.{Data}
use Rattle.serde_json.specs.Find.{as_str, as_array}
use Rattle.outside_scripted.specs.declared.records.IdentityAnswer.{IdentityAnswer}
use Rattle.outside_scripted.specs.declared.records.IdentityAnswer.TheVariants as sources
use Rattle.outside_scripted.specs.declared.records.IdentityRecord.{IdentityRecord}
use Rattle.json_forms.specs.Forms.{word_at}
use Rattle.json_forms.specs.Lists.{list_of}
use Rattle.json_forms.specs.Plain.{number_at, pair_at, triple_at}
use Rattle.json_forms.specs.Reading.{◌>>=◌}
use Rattle.json_values.specs.Readings.{identity_at}
use Rattle.json_values.specs.SettingReadings.{or_read}

-- the word and a text
unfoldable pub failed_identity_at : Data → Option IdentityAnswer
failed_identity_at d = pair_at d >>= λ p. word_at (codes "Failed") p.0 >>= λ _. as_str p.1 >>= λ t.
    Some (sources.Failed t)

-- each load gives this identity
unfoldable pub loaded_at : Data → Option IdentityAnswer
loaded_at d = identity_at d >>= λ i. Some (sources.Identity i)

-- what each load of a source comes to: a failure, or an identity
unfoldable pub identity_answer_at : Data → Option IdentityAnswer
identity_answer_at d = or_read (failed_identity_at d) (loaded_at d)

-- an id, a delay, and what each load comes to
unfoldable pub identity_record_at : Data → Option IdentityRecord
identity_record_at d = triple_at d >>= λ p. number_at p.1 >>= λ n. as_str p.0 >>= λ i. identity_answer_at p.2 >>= λ a.
    Some (record { id = i; delay = n; answer = a })

-- sources of identities, in their order
unfoldable pub sources_at : Data → Option (List IdentityRecord)
sources_at d = as_array d >>= list_of identity_record_at

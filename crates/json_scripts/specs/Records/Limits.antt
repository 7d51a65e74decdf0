-- Which sources and responses are within the limits of a script.
use Rattle.std.specs.Prelude.{List, Bool, true, ◌&&◌}
use Rattle.std.specs.List.{list_all}
use Rattle.outside_scripted.specs.declared.records.IdentityAnswer.{IdentityAnswer}
use Rattle.outside_scripted.specs.declared.records.IdentityAnswer.TheVariants as sources
use Rattle.outside_scripted.specs.declared.records.IdentityRecord.{IdentityRecord}
use Rattle.outside_scripted.specs.declared.records.RecordAnswer.{RecordAnswer}
use Rattle.outside_scripted.specs.declared.records.RecordAnswer.TheVariants as given
use Rattle.outside_scripted.specs.declared.records.ResponseRecord.{ResponseRecord}
use Rattle.json_scripts.specs.Heads.{head_fits}
use Rattle.json_scripts.specs.Texts.{text_fits}

-- the text of a failure; an identity has none
abbrev pub identity_answer_fits : IdentityAnswer → Bool
identity_answer_fits (sources.Identity i) = true
identity_answer_fits (sources.Failed t) = text_fits t

-- the id of a source, and the text of its failure
unfoldable pub source_fits : IdentityRecord → Bool
source_fits s = text_fits s.id && identity_answer_fits s.answer

-- each text of these sources
abbrev pub sources_fit : List IdentityRecord → Bool
sources_fit ss = list_all source_fits ss

-- the text of a failure, or the head of a response: frames are bounded by the script alone
abbrev pub record_answer_fits : RecordAnswer → Bool
record_answer_fits (given.Failed k t) = text_fits t
record_answer_fits (given.Response r) = head_fits r.headers

-- the text or the head of what a record brings
unfoldable pub record_fits : ResponseRecord → Bool
record_fits r = record_answer_fits r.answer

-- each text and each head of these records
abbrev pub records_fit : List ResponseRecord → Bool
records_fit rs = list_all record_fits rs

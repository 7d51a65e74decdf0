-- What the lines of a text tell of a run.
use Rattle.std.specs.Prelude.{ℕ, ◌≡◌, ◌-◌, List, [], ◌∷◌, Option, Some, None, codes, drop, length, nat_lt, take, IsUtf8}
use Rattle.std.specs.Prelude.{if◌then◌else◌}
use Rattle.json_forms.specs.Lines.{read_lines}
use Rattle.json_forms.specs.Forms.{named, word_at}
use Rattle.json_forms.specs.Lists.{list_of}
use Rattle.json_forms.specs.Plain.{number_at, sextuple_at}
use Rattle.json_forms.specs.Reading.{◌>>=◌}
use Rattle.json_print.specs.declared.head.RunHead.{RunHead}
use Rattle.serde_json.specs.Data.{Data, Items, no_items, item}
use Rattle.serde_json.specs.Find.{as_array, as_str}
use Rattle.serde_json.specs.View.{items_of}
use Rattle.smithy_types.specs.declared.kinds.StopPoint.{StopPoint}
use Rattle.json_values.specs.AnswerReadings.{kind_at}
use Rattle.json_values.specs.Names.{stop_text, stop_points}
use Rattle.json_values.specs.Readings.{payload_at}
use Rattle.runcheck.specs.Failing.{told_answer_at}
use Rattle.runcheck.specs.declared.told.Call.{Call}
use Rattle.runcheck.specs.declared.told.Told.{Told}

-- a stop point, by its name
unfoldable pub stop_at : Data → Option StopPoint
stop_at d = as_str d >>= named stop_text stop_points

-- the first line
unfoldable pub head_at : Data → Option RunHead
head_at d = sextuple_at d >>= λ p. word_at (codes "begin") p.0 >>= λ _. payload_at p.1 >>= λ i. stop_at p.2 >>= λ s.
    number_at p.3 >>= λ o. number_at p.4 >>= λ e. number_at p.5 >>= λ f.
    Some (record { input = i; fuel = f; stop = s; output_kind = o; error_kind = e })

-- the kind and the answer, which stand behind an entry's number
abbrev pub told_parts : Items → Option (Data × Data)
told_parts (item n (item k (item a rest))) = Some (k, a)
told_parts _ = None

-- the line of an entry
unfoldable pub call_at : Data → Option Call
call_at d = as_array d >>= told_parts >>= λ p. kind_at p.0 >>= λ k. told_answer_at k p.1 >>= λ a.
    Some (record { kind = k; answer = a })

-- the first line, if there is one
abbrev pub first_of : List Data → Option Data
first_of [] = None
first_of (d ∷ ds) = Some d

-- the lines between the first and the last
unfoldable pub between : List Data → Option (List Data)
between ds = if nat_lt (length ds) 2 then None else Some (take (length ds - 2) (drop 1 ds))

-- all lines but the last are read
unfoldable pub told_at : List Data → Option Told
told_at ds = first_of ds >>= head_at >>= λ h. between ds >>= λ es. list_of call_at (items_of es) >>= λ cs.
    Some (record { head = h; calls = cs })

-- what the lines of a text tell, where each is read
unfoldable pub told_by : List ℕ → Option Told
told_by text = read_lines text >>= told_at

-- The text is characters, each line is JSON, and they tell this.
abbrev pub IsTold : List ℕ → Told → Type 0
IsTold text t = IsUtf8 text × (told_by text ≡ Some t)

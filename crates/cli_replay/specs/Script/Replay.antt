-- Which script a text is.
use Rattle.std.specs.Prelude.{ℕ, ◌≡◌, List, [], ◌∷◌, Bool, ◌&&◌, Option, Some, None, codes, fold, nat_le, length}
use Rattle.std.specs.Prelude.{IsUtf8}
use Rattle.std.specs.List.{list_all}
use Rattle.serde_json.specs.Data.{Data, Items}
use Rattle.serde_json.specs.Find.{get, as_array}
use Rattle.serde_json.specs.Read.{read}
use Rattle.smithy_types.specs.declared.kinds.StopPoint.{StopPoint}
use Rattle.smithy_types.specs.declared.kinds.StopPoint.TheVariants as stops
use Rattle.smithy_context.specs.declared.setting.SettingKey.{SettingKey}
use Rattle.orchestrate.specs.declared.script.ScriptAnswer.{ScriptAnswer}
use Rattle.json_values.specs.AnswerReadings.{kind_at, answer_at}
use Rattle.cli_replay.specs.Script.Limits.{answer_fits, layer_keys, with_keys, layer_of_answer}
use Rattle.json_forms.specs.Lists.{list_of}
use Rattle.json_scripts.specs.Members.{only_among}
use Rattle.json_scripts.specs.Stop.{stop_at}
use Rattle.json_forms.specs.Plain.{number_at, pair_at}
use Rattle.json_forms.specs.Reading.{◌>>=◌}
use Rattle.json_values.specs.Readings.{payload_at}
use Rattle.json_values.specs.Spellable.{answer_spellable, payload_spellable}
use Rattle.cli_replay.specs.declared.script.replay.Script.{Script}

-- a kind as it is printed, and an answer that fits it
unfoldable pub script_answer_at : Data → Option ScriptAnswer
script_answer_at d =
    pair_at d >>= λ p. kind_at p.0 >>= λ k. answer_at k p.1 >>= λ a. Some (record { kind = k; answer = a })

-- the members that a script may have
unfoldable pub script_members : List (List ℕ)
script_members =
    codes "input" ∷ codes "fuel" ∷ codes "stop" ∷ codes "output_kind" ∷ codes "error_kind" ∷ codes "answers" ∷ []

-- the stop point, none where it is left out
abbrev pub stop_of : Option Data → Option StopPoint
stop_of None = Some stops.None
stop_of (Some d) = stop_at d

-- the items of an array that is a member
abbrev pub items_at : List ℕ → Data → Option Items
items_at name d = get name d >>= as_array

-- the script that a value is: none where a member is missing, isn't known, or isn't of its form
unfoldable pub script_at : Data → Option Script
script_at d =
    only_among script_members d >>= λ _.
    get (codes "input") d >>= payload_at >>= λ i.
    get (codes "fuel") d >>= number_at >>= λ f.
    stop_of (get (codes "stop") d) >>= λ s.
    get (codes "output_kind") d >>= number_at >>= λ o.
    get (codes "error_kind") d >>= number_at >>= λ e.
    get (codes "answers") d >>= as_array >>= list_of script_answer_at >>= λ list.
    Some (record { head = record { input = i; fuel = f; stop = s; output_kind = o; error_kind = e }; answers = list })

-- The bytes are the text of this script.
abbrev pub IsScript : List ℕ → Script → Type 0
IsScript bytes s = IsUtf8 bytes × ((read bytes >>= script_at) ≡ Some s)

-- JSON spells its input and each of its answers.
abbrev pub script_spellable : Script → Bool
script_spellable s =
    payload_spellable (s.head).input && list_all (λ (a : ScriptAnswer). answer_spellable a.answer) s.answers

-- ---- limits

-- each answer is within its limits
abbrev pub answers_fit : List ScriptAnswer → Bool
answers_fit list = list_all (λ (a : ScriptAnswer). answer_fits a.answer) list

-- the keys of all layers, each once, behind earlier ones
abbrev pub keys_behind : List SettingKey → List ScriptAnswer → List SettingKey
keys_behind keys list = fold (λ ks (a : ScriptAnswer). with_keys ks (layer_keys (layer_of_answer a.answer))) keys list

-- at most 64 different keys
abbrev pub keys_fit : List ScriptAnswer → Bool
keys_fit list = nat_le (length (keys_behind [] list)) 64

-- Fuel, texts, bodies, heads and keys are within their limits.
abbrev pub is_within : Script → Bool
is_within s = nat_le (s.head).fuel 100000 && (answers_fit s.answers && keys_fit s.answers)

-- What is read as a script can be spelled.
use Rattle.std.proofs.Common.{◌≡◌, ℕ, List, codes, Bool, true, ◌&&◌, Option, Some, None, Ordering, Less, Equal, Greater, Result, Ok, Err, IfOk, refl}
use Rattle.std.proofs.lemmas.Bool.{and_parts, and_from}
use Rattle.std.specs.Cmp.Lexicographic.{slice_cmp}
use Rattle.std.specs.List.{list_all}
use Rattle.std.specs.Ordering.{match_ordering, nat_cmp}
use Rattle.json_forms.specs.Lists.{list_of}
use Rattle.json_scripts.specs.Members.{only_among}
use Rattle.json_forms.specs.Plain.{number_at, pair_at}
use Rattle.json_forms.specs.Reading.{◌>>=◌, Reads}
use Rattle.json_forms.specs.declared.read.ReadError.{ReadError}
use Rattle.orchestrate.specs.declared.script.ScriptAnswer.{ScriptAnswer}
use Rattle.serde_json.specs.Data.{Data, null, boolean, number, string, array, object, Members, no_members, member}
use Rattle.serde_json.specs.Find.{as_array, get, get_member}
use Rattle.json_forms.specs.Bytes as bytes
use Rattle.json_values.specs.AnswerReadings.{answer_at, kind_at}
use Rattle.json_values.specs.Readings.{payload_at}
use Rattle.json_values.specs.Spellable.{answer_spellable, payload_spellable}
use Rattle.json_values.proofs.SpelledAnswers.{answer_fits}
use Rattle.json_values.proofs.SpelledForms.{Holds, OfBytes, array_of_bytes, held, items_of_bytes, list_spelled, members_of_bytes, of_bytes, pair_of_bytes, past, step}
use Rattle.json_values.proofs.SpelledHeads.{payload_spelled}
use Rattle.json_values.proofs.SameBytes.{same_bytes}
use Rattle.cli_replay.specs.Script.Replay.{script_answer_at, script_at, script_members, script_spellable, stop_of}
use Rattle.cli_replay.specs.declared.script.replay.Script.{Script}

-- ---- members

chosen_of_bytes : (o : Ordering) (x y z : Option Data) → Holds OfBytes x → Holds OfBytes y → Holds OfBytes z → Holds OfBytes (match_ordering o x y z)
chosen_of_bytes Less x y z hx hy hz = hx
chosen_of_bytes Equal x y z hx hy hz = hy
chosen_of_bytes Greater x y z hx hy hz = hz

member_of_bytes : (k : List ℕ) (ms : Members) → members_of_bytes ms ≡ true → Holds OfBytes (get_member k ms)
unfolding Holds of_bytes
member_of_bytes k no_members h = tt
member_of_bytes k (member l d ms) h =
    let p = and_parts (of_bytes d) (members_of_bytes ms) h in
    let later = member_of_bytes k ms p.1 in
    chosen_of_bytes (slice_cmp nat_cmp k l) (get_member k ms) (Some d) (get_member k ms) later p.0 later

get_of_bytes : (k : List ℕ) (d : Data) → OfBytes d → Holds OfBytes (get k d)
unfolding Holds of_bytes
get_of_bytes k null h = tt
get_of_bytes k (boolean b) h = tt
get_of_bytes k (number n) h = tt
get_of_bytes k (string s) h = tt
get_of_bytes k (array ds) h = tt
get_of_bytes k (object ms) h = member_of_bytes k ms h

-- ---- scripts

script_answer_spelled : (d : Data) → OfBytes d → Holds (λ (a : ScriptAnswer). answer_spellable a.answer ≡ true) (script_answer_at d)
unfolding script_answer_at Holds
script_answer_spelled d h =
    step _ _ (pair_at d) _ (pair_of_bytes d h) (λ p hp.
    past _ (kind_at p.0) _ (λ k.
    step _ _ (answer_at k p.1) _ (answer_fits k p.1 hp.1) (λ a ha. ha.1)))

script_spelled : (d : Data) → OfBytes d → Holds (λ s. script_spellable s ≡ true) (script_at d)
unfolding script_at Holds
script_spelled d h =
    past _ (only_among script_members d) _ (λ _.
    step (λ i. payload_spellable i ≡ true) _ (get (codes "input") d >>= payload_at) _ (step OfBytes _ (get (codes "input") d) payload_at (get_of_bytes (codes "input") d h) payload_spelled) (λ i hi.
    past _ (get (codes "fuel") d >>= number_at) _ (λ f.
    past _ (stop_of (get (codes "stop") d)) _ (λ s.
    past _ (get (codes "output_kind") d >>= number_at) _ (λ o.
    past _ (get (codes "error_kind") d >>= number_at) _ (λ e.
    step (λ (l : List ScriptAnswer). list_all (λ (a : ScriptAnswer). answer_spellable a.answer) l ≡ true) _ (get (codes "answers") d >>= as_array >>= list_of script_answer_at) _
    (step (λ ds. items_of_bytes ds ≡ true) _ (get (codes "answers") d >>= as_array) (list_of script_answer_at) (step OfBytes _ (get (codes "answers") d) as_array (get_of_bytes (codes "answers") d h) array_of_bytes)
    (list_spelled (λ (a : ScriptAnswer). answer_spellable a.answer) script_answer_at script_answer_spelled))
    (λ l hl. and_from (payload_spellable i) _ hi hl)))))))

pub reads_spelled : (d : Data) (r : Result Script ReadError) → bytes.of_bytes d ≡ true → Reads r (script_at d) → IfOk r (λ s. script_spellable s ≡ true)
reads_spelled d (Ok s) b h = held (λ s. script_spellable s ≡ true) (script_at d) s h (script_spelled d (same_bytes d b))
reads_spelled d (Err e) b h = tt

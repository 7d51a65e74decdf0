-- A script of `wait` has no float.
use Rattle.std.proofs.Common.{◌≡◌, codes, true}
use Rattle.serde_json.specs.Data.{Data, object}
use Rattle.serde_json.specs.Find.{as_array, as_str, get_member}
use Rattle.json_forms.specs.Forms.{starts, tagged_at}
use Rattle.json_forms.specs.Lists.{list_of}
use Rattle.json_forms.specs.Plain.{number_at, triple_at}
use Rattle.json_forms.specs.Reading.{◌>>=◌}
use Rattle.json_values.specs.Readings.{payload_at}
use Rattle.json_values.proofs.SpelledForms.{Holds, either, step}
use Rattle.json_scripts.specs.Words.{words_at}
use Rattle.cli_wait.specs.Script.{poll_at, polls_at, result_at, script_at, script_members, some_of, state_at}
use Rattle.laws_program.specs.Scripts.Floats.{FloatsSpellNothing}
use Rattle.laws_program.proofs.scripts.Ordered.{is_ordered, ordered_when_read}
use Rattle.laws_program.proofs.scripts.PlainForms.{Plain, Refuses, always, kept, number_plain, part, rows_plain, said_or, str_plain, tagged_plain, triple_plain}
use Rattle.laws_program.proofs.scripts.PlainMembers.{by_members, by_names, member_plain, spells_nothing}
use Rattle.laws_program.proofs.scripts.PlainValues.{payload_plain}

-- ---- polls

result_plain : Refuses result_at
unfolding result_at
result_plain d =
    said_or (codes "Timeout") d _ _
    (either _ (starts (codes "Output") d) _ _ (kept (Plain d) (tagged_at (codes "Output") d >>= payload_at) _ (tagged_plain (codes "Output") payload_at payload_plain d))
    (kept (Plain d) (tagged_at (codes "Service") d >>= payload_at) _ (tagged_plain (codes "Service") payload_at payload_plain d)))

state_plain : Refuses state_at
unfolding state_at
state_plain d = kept (Plain d) (as_str d) _ (str_plain d)

poll_plain : Refuses poll_at
unfolding poll_at Holds
poll_plain d =
    step _ _ (triple_at d) _ (triple_plain d) (λ p whole.
    part number_at number_plain p.0 _ _ (λ h n.
    part result_at result_plain p.1 _ _ (λ i r.
    part state_at state_plain p.2 _ _ (λ j s. whole h i j))))

pub polls_plain : Refuses polls_at
unfolding polls_at
polls_plain d = kept (Plain d) (as_array d >>= list_of poll_at) some_of (rows_plain poll_at poll_plain d)

pub words_plain : Refuses words_at
unfolding words_at
words_plain d = rows_plain number_at number_plain d

-- ---- the whole script

-- the seven members, and no other
script_plain : (d : Data) → is_ordered d ≡ true → Holds (λ _. Plain d) (script_at d)
unfolding script_at script_members Holds
script_plain = by_members script_members _ (λ ms h among.
    step _ _ (get_member (codes "min") ms >>= number_at) _ (member_plain number_at number_plain (codes "min") ms) (λ _ a.
    step _ _ (get_member (codes "max") ms >>= number_at) _ (member_plain number_at number_plain (codes "max") ms) (λ _ b.
    step _ _ (get_member (codes "max_wait") ms >>= number_at) _ (member_plain number_at number_plain (codes "max_wait") ms) (λ _ w.
    step _ _ (get_member (codes "start") ms >>= number_at) _ (member_plain number_at number_plain (codes "start") ms) (λ _ m.
    step _ _ (get_member (codes "fuel") ms >>= number_at) _ (member_plain number_at number_plain (codes "fuel") ms) (λ _ f.
    step _ _ (get_member (codes "words") ms >>= words_at) _ (member_plain words_at words_plain (codes "words") ms) (λ _ ws.
    step _ _ (get_member (codes "polls") ms >>= polls_at) _ (member_plain polls_at polls_plain (codes "polls") ms) (λ _ ps.
    always (Plain (object ms)) _ (by_names script_members ms h among (a, (b, (w, (m, (f, (ws, (ps, tt))))))))))))))))

pub wait_scripts_plain : FloatsSpellNothing script_at
wait_scripts_plain text d e h = spells_nothing d (script_at d) (script_plain d (ordered_when_read text d e)) h

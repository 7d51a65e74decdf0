-- A script of `replay` has no float.
use Rattle.std.proofs.Common.{◌≡◌, codes, true, Option, Some, None, refl, subst}
use Rattle.serde_json.specs.Data.{Data}
use Rattle.serde_json.specs.Find.{as_array, as_str, get_member}
use Rattle.json_forms.specs.Lists.{list_of}
use Rattle.json_forms.specs.Plain.{number_at, pair_at}
use Rattle.json_forms.specs.Reading.{◌>>=◌}
use Rattle.json_values.specs.AnswerReadings.{answer_at, kind_at}
use Rattle.json_values.specs.Readings.{payload_at}
use Rattle.json_values.proofs.SpelledForms.{Holds, step, weaker}
use Rattle.json_scripts.specs.Stop.{stop_at}
use Rattle.cli_replay.specs.Script.Replay.{script_answer_at, script_at, script_members, stop_of}
use Rattle.laws_program.specs.Scripts.Floats.{FloatsSpellNothing}
use Rattle.laws_program.proofs.scripts.Ordered.{is_ordered, ordered_when_read}
use Rattle.laws_program.proofs.scripts.PlainAnswers.{answer_plain, kind_plain}
use Rattle.laws_program.proofs.scripts.PlainForms.{Plain, Refuses, kept, number_plain, pair_plain, part, rows_plain, str_plain}
use Rattle.laws_program.proofs.scripts.PlainMembers.{by_members, by_names, member_plain, member_then, none_some, some_same, spells_nothing}
use Rattle.laws_program.proofs.scripts.PlainValues.{payload_plain}

script_answer_plain : Refuses script_answer_at
unfolding script_answer_at Holds
script_answer_plain d =
    step _ _ (pair_at d) _ (pair_plain d) (λ p whole.
    part kind_at kind_plain p.0 _ _ (λ h k.
    part (answer_at k) (answer_plain k) p.1 _ _ (λ i a. whole h i)))

stop_plain : Refuses stop_at
unfolding stop_at
stop_plain d = kept (Plain d) (as_str d) _ (str_plain d)

-- the stop point may be left out
stop_member : (o : Option Data) → Holds (λ _. (e : Data) → o ≡ Some e → Plain e) (stop_of o)
unfolding Holds
stop_member None = λ e g. absurd (none_some None e refl g)
stop_member (Some d) = weaker (λ _. Plain d) (λ _. (e : Data) → Some d ≡ Some e → Plain e) (stop_at d) (stop_plain d) (λ _ p e g. subst Plain (some_same d e g) p)

-- the six members, and no other
script_plain : (d : Data) → is_ordered d ≡ true → Holds (λ _. Plain d) (script_at d)
unfolding script_at script_members Holds
script_plain = by_members script_members _ (λ ms h among.
    step _ _ (get_member (codes "input") ms >>= payload_at) _ (member_plain payload_at payload_plain (codes "input") ms) (λ _ i.
    step _ _ (get_member (codes "fuel") ms >>= number_at) _ (member_plain number_at number_plain (codes "fuel") ms) (λ _ f.
    step _ _ (stop_of (get_member (codes "stop") ms)) _ (stop_member (get_member (codes "stop") ms)) (λ _ s.
    step _ _ (get_member (codes "output_kind") ms >>= number_at) _ (member_plain number_at number_plain (codes "output_kind") ms) (λ _ o.
    step _ _ (get_member (codes "error_kind") ms >>= number_at) _ (member_plain number_at number_plain (codes "error_kind") ms) (λ _ e.
    step _ _ (get_member (codes "answers") ms >>= as_array >>= list_of script_answer_at) _ (member_then as_array (list_of script_answer_at) (rows_plain script_answer_at script_answer_plain) (codes "answers") ms) (λ _ a.
    by_names script_members ms h among (i, (f, (s, (o, (e, (a, tt)))))))))))))

pub replay_scripts_plain : FloatsSpellNothing script_at
replay_scripts_plain text d e h = spells_nothing d (script_at d) (script_plain d (ordered_when_read text d e)) h

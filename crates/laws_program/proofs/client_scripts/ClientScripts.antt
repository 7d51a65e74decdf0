-- A script of `client` has no float.
use Rattle.std.proofs.Common.{ℕ, List, [], ◌∷◌, length, codes, refl}
use Rattle.serde_json.specs.Data.{object, Members}
use Rattle.serde_json.specs.Find.{get_member}
use Rattle.json_forms.specs.Plain.{number_at, number_below}
use Rattle.json_forms.specs.Reading.{◌>>=◌}
use Rattle.json_values.proofs.SpelledForms.{Holds, step, weaker}
use Rattle.json_scripts.specs.Words.{words_at}
use Rattle.json_scripts.specs.Buckets.{buckets_at}
use Rattle.json_scripts.specs.Client.Clients.{clients_at}
use Rattle.json_scripts.specs.Client.Invocations.{invocation_at, invocations_at, run_at}
use Rattle.json_scripts.specs.Client.Members.{members_at}
use Rattle.json_scripts.specs.Client.Script.{client_script_at}
use Rattle.laws_program.specs.Scripts.Floats.{FloatsSpellNothing}
use Rattle.laws_program.proofs.scripts.PlainForms.{Plain, Refuses, below_plain, number_plain, rows_plain}
use Rattle.laws_program.proofs.scripts.PlainMembers.{spells_nothing}
use Rattle.laws_program.proofs.client_scripts.Clients.{buckets_plain, by_count, clients_plain, counted, run_found, run_names}
use Rattle.laws_program.proofs.client_scripts.Counted.{all_counted, member_found}
use Rattle.laws_program.proofs.client_scripts.Outsides.{words_plain}

invocation_object : (clients : ℕ) (ms : Members) → Holds (λ _. Plain (object ms)) (invocation_at clients (object ms))
unfolding invocation_at Holds
invocation_object clients ms =
    step _ _ (members_at 5 (object ms)) _ (counted 5 ms) (λ _ count.
    step _ _ (get_member (codes "client") ms >>= number_below clients) _ (member_found (number_below clients) (below_plain clients) (codes "client") ms) (λ client c.
    weaker _ _ (run_at client (object ms)) (run_found client ms) (λ _ run.
    all_counted (codes "client" ∷ run_names) ms refl (c, run) count)))

invocation_plain : (clients : ℕ) → Refuses (invocation_at clients)
unfolding invocation_at
invocation_plain clients = by_count (λ _. 5) _ (invocation_object clients)

invocations_plain : (clients : ℕ) → Refuses (invocations_at clients)
unfolding invocations_at
invocations_plain clients d = rows_plain (invocation_at clients) (invocation_plain clients) d

abbrev script_names : List (List ℕ)
script_names = codes "start" ∷ codes "buckets" ∷ codes "words" ∷ codes "clients" ∷ codes "invocations" ∷ []

object_plain : (ms : Members) → Holds (λ _. Plain (object ms)) (client_script_at (object ms))
unfolding client_script_at Holds
object_plain ms =
    step _ _ (members_at 5 (object ms)) _ (counted 5 ms) (λ _ count.
    step _ _ (get_member (codes "start") ms >>= number_at) _ (member_found number_at number_plain (codes "start") ms) (λ _ s.
    step _ _ (get_member (codes "buckets") ms >>= buckets_at) _ (member_found buckets_at buckets_plain (codes "buckets") ms) (λ bs b.
    step _ _ (get_member (codes "words") ms >>= words_at) _ (member_found words_at words_plain (codes "words") ms) (λ _ w.
    step _ _ (get_member (codes "clients") ms >>= clients_at (length bs)) _ (member_found (clients_at (length bs)) (clients_plain (length bs)) (codes "clients") ms) (λ cs c.
    step _ _ (get_member (codes "invocations") ms >>= invocations_at (length cs)) _ (member_found (invocations_at (length cs)) (invocations_plain (length cs)) (codes "invocations") ms) (λ _ i.
    all_counted script_names ms refl (s, (b, (w, (c, (i, tt))))) count))))))

script_plain : Refuses client_script_at
unfolding client_script_at
script_plain = by_count (λ _. 5) _ object_plain

pub client_scripts_plain : FloatsSpellNothing client_script_at
client_scripts_plain text d e h = spells_nothing d (client_script_at d) (script_plain d) h

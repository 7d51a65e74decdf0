-- A script of `fleet` has no float.
use Rattle.std.proofs.Common.{[], ◌∷◌, codes, refl}
use Rattle.serde_json.specs.Data.{object, Members}
use Rattle.serde_json.specs.Find.{as_array, get_member}
use Rattle.json_forms.specs.Lists.{list_of}
use Rattle.json_forms.specs.Plain.{number_at}
use Rattle.json_forms.specs.Reading.{◌>>=◌}
use Rattle.json_values.proofs.SpelledForms.{Holds, step, weaker}
use Rattle.json_scripts.specs.Words.{words_at}
use Rattle.json_scripts.specs.Buckets.{bucket_terms_at}
use Rattle.json_scripts.specs.Client.Clients.{client_at}
use Rattle.json_scripts.specs.Client.Invocations.{run_at}
use Rattle.json_scripts.specs.Client.Members.{members_at}
use Rattle.json_scripts.specs.Fleet.Callers.{caller_at, caller_run_at, caller_runs_at, callers_at, some_of}
use Rattle.json_scripts.specs.Fleet.Script.{fleet_script_at}
use Rattle.laws_program.specs.Scripts.Floats.{FloatsSpellNothing}
use Rattle.laws_program.proofs.scripts.PlainForms.{Plain, Refuses, kept, number_plain, rows_plain}
use Rattle.laws_program.proofs.scripts.PlainMembers.{spells_nothing}
use Rattle.laws_program.proofs.client_scripts.Clients.{bucket_plain, by_count, client_plain, counted, run_found, run_names}
use Rattle.laws_program.proofs.client_scripts.Counted.{all_counted, member_found}
use Rattle.laws_program.proofs.client_scripts.Outsides.{words_plain}

-- ---- callers

run_object : (ms : Members) → Holds (λ _. Plain (object ms)) (caller_run_at (object ms))
unfolding caller_run_at
run_object ms =
    step _ _ (members_at 4 (object ms)) _ (counted 4 ms) (λ _ count.
    weaker _ _ (run_at 0 (object ms)) (run_found 0 ms) (λ _ run. all_counted run_names ms refl run count))

run_plain : Refuses caller_run_at
unfolding caller_run_at
run_plain = by_count (λ _. 4) _ run_object

runs_plain : Refuses caller_runs_at
unfolding caller_runs_at
runs_plain d = rows_plain caller_run_at run_plain d

caller_object : (ms : Members) → Holds (λ _. Plain (object ms)) (caller_at (object ms))
unfolding caller_at Holds
caller_object ms =
    step _ _ (members_at 2 (object ms)) _ (counted 2 ms) (λ _ count.
    step _ _ (get_member (codes "invocations") ms >>= caller_runs_at) _ (member_found caller_runs_at runs_plain (codes "invocations") ms) (λ _ i.
    step _ _ (get_member (codes "client") ms >>= client_at 1) _ (member_found (client_at 1) (client_plain 1) (codes "client") ms) (λ _ c.
    all_counted (codes "invocations" ∷ codes "client" ∷ []) ms refl (i, (c, tt)) count)))

caller_plain : Refuses caller_at
unfolding caller_at
caller_plain = by_count (λ _. 2) _ caller_object

callers_plain : Refuses callers_at
unfolding callers_at
callers_plain d = kept (Plain d) (as_array d >>= list_of caller_at) some_of (rows_plain caller_at caller_plain d)

-- ---- the whole script

object_plain : (ms : Members) → Holds (λ _. Plain (object ms)) (fleet_script_at (object ms))
unfolding fleet_script_at Holds
object_plain ms =
    step _ _ (members_at 4 (object ms)) _ (counted 4 ms) (λ _ count.
    step _ _ (get_member (codes "bucket") ms >>= bucket_terms_at) _ (member_found bucket_terms_at bucket_plain (codes "bucket") ms) (λ _ b.
    step _ _ (get_member (codes "start") ms >>= number_at) _ (member_found number_at number_plain (codes "start") ms) (λ _ s.
    step _ _ (get_member (codes "words") ms >>= words_at) _ (member_found words_at words_plain (codes "words") ms) (λ _ w.
    step _ _ (get_member (codes "callers") ms >>= callers_at) _ (member_found callers_at callers_plain (codes "callers") ms) (λ _ c.
    all_counted (codes "bucket" ∷ codes "start" ∷ codes "words" ∷ codes "callers" ∷ []) ms refl (b, (s, (w, (c, tt)))) count)))))

script_plain : Refuses fleet_script_at
unfolding fleet_script_at
script_plain = by_count (λ _. 4) _ object_plain

pub fleet_scripts_plain : FloatsSpellNothing fleet_script_at
fleet_scripts_plain text d e h = spells_nothing d (fleet_script_at d) (script_plain d) h

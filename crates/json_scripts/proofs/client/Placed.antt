-- A script that is read names what it has.
use Rattle.std.proofs.Common.{ℕ, ◌<◌, length, codes, Option, Some, Result, Ok, Err, All, IfOk, IfSome}
use Rattle.std.proofs.lemmas.Bool.{ltb-true}
use Rattle.std.proofs.lemmas.List.Elements.{All-nil, All-cons}
use Rattle.serde_json.specs.Data.{Data, null, boolean, number, string, array, object, Items, no_items, item}
use Rattle.serde_json.specs.Find.{as_array, get}
use Rattle.json_forms.specs.Forms.{optional_at}
use Rattle.json_forms.specs.Lists.{list_of}
use Rattle.json_forms.specs.Plain.{number_at, number_below}
use Rattle.json_forms.specs.Reading.{◌>>=◌, Reads}
use Rattle.json_forms.specs.declared.read.ReadError.{ReadError}
use Rattle.json_values.specs.Readings.{payload_at}
use Rattle.json_values.specs.SettingForms.{timeouts_at, stall_at}
use Rattle.json_values.proofs.SpelledForms.{Holds, held, step, past, mapped, weaker, number_within}
use Rattle.json_scripts.specs.Records.Responses.{records_at}
use Rattle.json_scripts.specs.Words.{words_at}
use Rattle.json_scripts.specs.Client.Auth.{auth_at}
use Rattle.json_scripts.specs.Buckets.{buckets_at}
use Rattle.json_scripts.specs.Client.Clients.{flags_at, rules_at, target_at, client_members, client_at, clients_at}
use Rattle.json_scripts.specs.Stop.{stop_at}
use Rattle.json_scripts.specs.Client.Invocations.{run_at, invocation_at, invocations_at}
use Rattle.json_scripts.specs.Client.Members.{members_at}
use Rattle.json_scripts.specs.Client.Placed.{RulesHaveBucket, HasBucket, HasClient, IsPlaced}
use Rattle.json_scripts.specs.Client.Retries.{retry_choice_at, classifiers_at}
use Rattle.json_scripts.specs.Client.Schemes.{http_schemes_of}
use Rattle.json_scripts.specs.Client.Script.{client_script_at}
use Rattle.json_scripts.specs.declared.client.script.ClientScript.{ClientScript}

-- ---- places

number_placed : (bound : ℕ) (d : Data) → Holds (λ n. n < bound) (number_below bound d)
number_placed bound d = weaker _ _ (number_below bound d) (number_within bound d) (λ n h. ltb-true n bound h)

optional_placed : (bound : ℕ) (d : Data) → Holds (λ o. IfSome o (λ n. n < bound)) (optional_at (number_below bound) d)
unfolding optional_at Holds
optional_placed bound null = tt
optional_placed bound (boolean b) = mapped (λ n. n < bound) (λ o. IfSome o (λ n. n < bound)) Some (number_below bound (boolean b)) (number_placed bound (boolean b)) (λ n h. h)
optional_placed bound (number n) = mapped (λ n. n < bound) (λ o. IfSome o (λ n. n < bound)) Some (number_below bound (number n)) (number_placed bound (number n)) (λ n h. h)
optional_placed bound (string s) = mapped (λ n. n < bound) (λ o. IfSome o (λ n. n < bound)) Some (number_below bound (string s)) (number_placed bound (string s)) (λ n h. h)
optional_placed bound (array ds) = mapped (λ n. n < bound) (λ o. IfSome o (λ n. n < bound)) Some (number_below bound (array ds)) (number_placed bound (array ds)) (λ n h. h)
optional_placed bound (object ms) = mapped (λ n. n < bound) (λ o. IfSome o (λ n. n < bound)) Some (number_below bound (object ms)) (number_placed bound (object ms)) (λ n h. h)

each_placed : {X : Type 0} (P : X → Type 0) (f : Data → Option X) → ((d : Data) → Holds P (f d)) → (ds : Items) → Holds (All P) (list_of f ds)
unfolding list_of Holds
each_placed P f each no_items = All-nil P
each_placed P f each (item d ds) =
    step P _ (f d) _ (each d) (λ x hx.
    step (All P) _ (list_of f ds) _ (each_placed P f each ds) (λ xs hxs. All-cons P x xs hx hxs))

-- ---- clients

rules_placed : (buckets : ℕ) (d : Data) → Holds (RulesHaveBucket buckets) (rules_at buckets d)
unfolding rules_at Holds
rules_placed buckets d =
    past _ (flags_at d) _ (λ flags.
    step (λ o. IfSome o (λ b. b < buckets)) _ (get (codes "bucket") d >>= optional_at (number_below buckets)) _ (past _ (get (codes "bucket") d) _ (optional_placed buckets)) (λ b hb.
    past _ (get (codes "retry") d >>= retry_choice_at) _ (λ r.
    past _ (get (codes "timeouts") d >>= timeouts_at) _ (λ t.
    past _ (get (codes "stall") d >>= optional_at stall_at) _ (λ s. hb)))))

client_placed : (buckets : ℕ) (d : Data) → Holds (HasBucket buckets) (client_at buckets d)
unfolding client_at Holds
client_placed buckets d =
    past _ (members_at (client_members d) d) _ (λ _.
    step (RulesHaveBucket buckets) _ (rules_at buckets d) _ (rules_placed buckets d) (λ r hr.
    past _ (get (codes "classifiers") d >>= classifiers_at) _ (λ cs.
    past _ (get (codes "auth") d) _ (λ a.
    past _ (http_schemes_of (get (codes "http_schemes") d)) _ (λ hs.
    past _ (auth_at hs a) _ (λ auth.
    past _ (target_at d) _ (λ t. hr)))))))

clients_placed : (buckets : ℕ) (d : Data) → Holds (All (HasBucket buckets)) (clients_at buckets d)
unfolding clients_at
clients_placed buckets d = past _ (as_array d) _ (each_placed (HasBucket buckets) (client_at buckets) (client_placed buckets))

-- ---- invocations

run_placed : (clients client : ℕ) (d : Data) → client < clients → Holds (HasClient clients) (run_at client d)
unfolding run_at Holds
run_placed clients client d h =
    past _ (get (codes "fuel") d >>= number_at) _ (λ f.
    past _ (get (codes "stop") d >>= stop_at) _ (λ s.
    past _ (get (codes "input") d >>= payload_at) _ (λ i.
    past _ (get (codes "responses") d >>= records_at) _ (λ rs. h))))

invocation_placed : (clients : ℕ) (d : Data) → Holds (HasClient clients) (invocation_at clients d)
unfolding invocation_at
invocation_placed clients d =
    past _ (members_at 5 d) _ (λ _.
    step (λ c. c < clients) _ (get (codes "client") d >>= number_below clients) _ (past _ (get (codes "client") d) _ (number_placed clients)) (λ c hc. run_placed clients c d hc))

invocations_placed : (clients : ℕ) (d : Data) → Holds (All (HasClient clients)) (invocations_at clients d)
unfolding invocations_at
invocations_placed clients d = past _ (as_array d) _ (each_placed (HasClient clients) (invocation_at clients) (invocation_placed clients))

-- ---- scripts

script_placed : (d : Data) → Holds IsPlaced (client_script_at d)
unfolding client_script_at Holds
script_placed d =
    past _ (members_at 5 d) _ (λ _.
    past _ (get (codes "start") d >>= number_at) _ (λ s.
    past _ (get (codes "buckets") d >>= buckets_at) _ (λ bs.
    past _ (get (codes "words") d >>= words_at) _ (λ ws.
    step (All (HasBucket (length bs))) _ (get (codes "clients") d >>= clients_at (length bs)) _ (past _ (get (codes "clients") d) _ (clients_placed (length bs))) (λ cs hcs.
    step (All (HasClient (length cs))) _ (get (codes "invocations") d >>= invocations_at (length cs)) _ (past _ (get (codes "invocations") d) _ (invocations_placed (length cs))) (λ is his. (hcs, his)))))))

-- what was read is placed
pub placed_reading : (r : Result ClientScript ReadError) (d : Data) → Reads r (client_script_at d) → IfOk r IsPlaced
placed_reading (Ok s) d e = held IsPlaced (client_script_at d) s e (script_placed d)
placed_reading (Err x) d e = tt

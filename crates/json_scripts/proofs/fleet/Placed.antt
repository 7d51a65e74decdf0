-- A script that is read names what it has.
use Rattle.std.proofs.Common.{ℕ, ◌<◌, ◌∷◌, List, [], length, codes, Option, Some, Result, Ok, Err, All, IfOk, IfSome, option_map, arith}
use Rattle.std.proofs.lemmas.Bool.{ltb-true}
use Rattle.std.proofs.lemmas.List.Elements.{All-nil, All-cons}
use Rattle.serde_json.specs.Data.{Data, null, boolean, number, string, array, object, Items, no_items, item}
use Rattle.serde_json.specs.Find.{as_array, get}
use Rattle.json_forms.specs.Forms.{optional_at}
use Rattle.json_forms.specs.Lists.{list_of}
use Rattle.json_forms.specs.Plain.{number_at, number_below}
use Rattle.json_forms.specs.Reading.{◌>>=◌, Reads}
use Rattle.json_forms.specs.declared.read.ReadError.{ReadError}
use Rattle.json_values.specs.Readings.{payload_at}
use Rattle.json_values.specs.SettingForms.{timeouts_at, stall_at}
use Rattle.json_values.proofs.SpelledForms.{Holds, held, step, past, mapped, weaker, number_within}
use Rattle.json_scripts.specs.Records.Responses.{records_at}
use Rattle.json_scripts.specs.Words.{words_at}
use Rattle.json_scripts.specs.Client.Auth.{auth_at}
use Rattle.json_scripts.specs.Buckets.{bucket_terms_at}
use Rattle.json_scripts.specs.Client.Clients.{flags_at, rules_at, target_at, client_members, client_at}
use Rattle.json_scripts.specs.Stop.{stop_at}
use Rattle.json_scripts.specs.Client.Invocations.{run_at}
use Rattle.json_scripts.specs.Client.Members.{members_at}
use Rattle.json_scripts.specs.Client.Placed.{RulesHaveBucket, HasBucket, HasClient}
use Rattle.json_scripts.specs.Client.Retries.{retry_choice_at, classifiers_at}
use Rattle.json_scripts.specs.Client.Schemes.{http_schemes_of}
use Rattle.json_scripts.specs.Fleet.Callers.{caller_run_at, caller_runs_at, caller_at, callers_at, some_of}
use Rattle.json_scripts.specs.Fleet.Placed.{HasPlaces, IsPlaced}
use Rattle.json_scripts.specs.Fleet.Script.{fleet_script_at}
use Rattle.json_scripts.specs.declared.fleet.terms.CallerRecord.{CallerRecord}
use Rattle.json_scripts.specs.declared.fleet.terms.FleetScript.{FleetScript}

-- ---- lists, and places that may be left out

each_holds : {X : Type 0} (P : X → Type 0) (f : Data → Option X) → ((d : Data) → Holds P (f d)) → (ds : Items) → Holds (All P) (list_of f ds)
unfolding list_of Holds
each_holds P f each no_items = All-nil P
each_holds P f each (item d ds) =
    step P _ (f d) _ (each d) (λ x hx.
    step (All P) _ (list_of f ds) _ (each_holds P f each ds) (λ xs hxs. All-cons P x xs hx hxs))

some_below : (bound : ℕ) (o : Option ℕ) → Holds (λ n. n < bound) o → Holds (λ p. IfSome p (λ n. n < bound)) (option_map Some o)
some_below bound o h = mapped (λ n. n < bound) (λ p. IfSome p (λ n. n < bound)) Some o h (λ n k. k)

number_placed : (bound : ℕ) (d : Data) → Holds (λ n. n < bound) (number_below bound d)
number_placed bound d = weaker _ _ (number_below bound d) (number_within bound d) (λ n h. ltb-true n bound h)

optional_placed : (bound : ℕ) (d : Data) → Holds (λ o. IfSome o (λ n. n < bound)) (optional_at (number_below bound) d)
unfolding optional_at Holds
optional_placed bound null = tt
optional_placed bound (boolean b) = some_below bound (number_below bound (boolean b)) (number_placed bound (boolean b))
optional_placed bound (number n) = some_below bound (number_below bound (number n)) (number_placed bound (number n))
optional_placed bound (string s) = some_below bound (number_below bound (string s)) (number_placed bound (string s))
optional_placed bound (array ds) = some_below bound (number_below bound (array ds)) (number_placed bound (array ds))
optional_placed bound (object ms) = some_below bound (number_below bound (object ms)) (number_placed bound (object ms))

-- ---- clients

rules_placed : (buckets : ℕ) (d : Data) → Holds (RulesHaveBucket buckets) (rules_at buckets d)
unfolding rules_at Holds
rules_placed buckets d =
    past _ (flags_at d) _ (λ flags.
    step (λ o. IfSome o (λ b. b < buckets)) _ (get (codes "bucket") d >>= optional_at (number_below buckets)) _ (past _ (get (codes "bucket") d) _ (optional_placed buckets)) (λ b hb.
    past _ (get (codes "retry") d >>= retry_choice_at) _ (λ r.
    past _ (get (codes "timeouts") d >>= timeouts_at) _ (λ t.
    past _ (get (codes "stall") d >>= optional_at stall_at) _ (λ s. hb)))))

client_placed : (buckets : ℕ) (d : Data) → Holds (HasBucket buckets) (client_at buckets d)
unfolding client_at Holds
client_placed buckets d =
    past _ (members_at (client_members d) d) _ (λ _.
    step (RulesHaveBucket buckets) _ (rules_at buckets d) _ (rules_placed buckets d) (λ r hr.
    past _ (get (codes "classifiers") d >>= classifiers_at) _ (λ cs.
    past _ (get (codes "auth") d) _ (λ a.
    past _ (http_schemes_of (get (codes "http_schemes") d)) _ (λ hs.
    past _ (auth_at hs a) _ (λ auth.
    past _ (target_at d) _ (λ t. hr)))))))

-- ---- invocations

first : 0 < 1
first = omega arith

run_placed : (d : Data) → Holds (HasClient 1) (run_at 0 d)
unfolding run_at Holds
run_placed d =
    past _ (get (codes "fuel") d >>= number_at) _ (λ f.
    past _ (get (codes "stop") d >>= stop_at) _ (λ s.
    past _ (get (codes "input") d >>= payload_at) _ (λ i.
    past _ (get (codes "responses") d >>= records_at) _ (λ rs. first))))

caller_run_placed : (d : Data) → Holds (HasClient 1) (caller_run_at d)
unfolding caller_run_at
caller_run_placed d = past _ (members_at 4 d) _ (λ _. run_placed d)

caller_runs_placed : (d : Data) → Holds (All (HasClient 1)) (caller_runs_at d)
unfolding caller_runs_at
caller_runs_placed d = past _ (as_array d) _ (each_holds (HasClient 1) caller_run_at caller_run_placed)

-- ---- callers

caller_placed : (d : Data) → Holds HasPlaces (caller_at d)
unfolding caller_at Holds
caller_placed d =
    past _ (members_at 2 d) _ (λ _.
    step (All (HasClient 1)) _ (get (codes "invocations") d >>= caller_runs_at) _ (past _ (get (codes "invocations") d) _ caller_runs_placed) (λ is his.
    step (HasBucket 1) _ (get (codes "client") d >>= client_at 1) _ (past _ (get (codes "client") d) _ (client_placed 1)) (λ c hc.
    record { bucket = hc; clients = his })))

abbrev AreSome : List CallerRecord → Type 0
AreSome cs = (0 < length cs) × All HasPlaces cs

some_placed : (cs : List CallerRecord) → All HasPlaces cs → Holds AreSome (some_of cs)
unfolding Holds
some_placed [] h = tt
some_placed (c ∷ cs) h = (omega arith, h)

callers_placed : (d : Data) → Holds AreSome (callers_at d)
unfolding callers_at
callers_placed d = step (All HasPlaces) _ (as_array d >>= list_of caller_at) _ (past _ (as_array d) _ (each_holds HasPlaces caller_at caller_placed)) some_placed

-- ---- scripts

script_placed : (d : Data) → Holds IsPlaced (fleet_script_at d)
unfolding fleet_script_at Holds
script_placed d =
    past _ (members_at 4 d) _ (λ _.
    past _ (get (codes "bucket") d >>= bucket_terms_at) _ (λ b.
    past _ (get (codes "start") d >>= number_at) _ (λ s.
    past _ (get (codes "words") d >>= words_at) _ (λ ws.
    step AreSome _ (get (codes "callers") d >>= callers_at) _ (past _ (get (codes "callers") d) _ callers_placed) (λ cs hcs.
    record { some = hcs.0; callers = hcs.1 })))))

-- what was read is placed
pub placed_reading : (r : Result FleetScript ReadError) (d : Data) → Reads r (fleet_script_at d) → IfOk r IsPlaced
placed_reading (Ok s) d e = held IsPlaced (fleet_script_at d) s e (script_placed d)
placed_reading (Err x) d e = tt

-- Buckets, client objects and invocations that are read have no float.
use Rattle.std.proofs.Common.{◌≡◌, ℕ, ◌^◌, List, [], ◌∷◌, codes, true, false, ◌==◌, Option, Some, None, is_some, refl, subst, eqb-true, if◌then◌else◌}
use Rattle.std.proofs.lemmas.Bool.{or_from}
use Rattle.serde_json.specs.Data.{Data, null, boolean, number, string, array, object, no_items, item, Members}
use Rattle.serde_json.specs.Find.{as_array, as_bool, as_str, get_member}
use Rattle.serde_json.specs.Written.{has_float}
use Rattle.json_forms.specs.Forms.{member_count, optional_at, says, tagged_at, texts_at, word_at}
use Rattle.json_forms.specs.Lists.{list_of}
use Rattle.json_forms.specs.Plain.{number_at, number_below, quadruple_at, quintuple_at, sextuple_at}
use Rattle.json_forms.specs.Reading.{◌>>=◌}
use Rattle.json_values.specs.Readings.{payload_at}
use Rattle.json_values.specs.SettingForms.{retry_at, stall_at, timeouts_at}
use Rattle.json_values.proofs.SpelledForms.{Holds, either_by, past, step, step_at, weaker}
use Rattle.json_scripts.specs.Records.Identities.{sources_at}
use Rattle.json_scripts.specs.Records.Responses.{records_at}
use Rattle.json_scripts.specs.Client.Auth.{auth_at, auth_schemes_at, cache_at, lazy_at, unsigned}
use Rattle.json_scripts.specs.Buckets.{bucket_terms_at, buckets_at}
use Rattle.json_scripts.specs.Client.Clients.{client_at, client_members, clients_at, flags_at, rules_at, target_at, text_member}
use Rattle.json_scripts.specs.Stop.{stop_at}
use Rattle.json_scripts.specs.Client.Invocations.{run_at}
use Rattle.json_scripts.specs.Client.Members.{members_at}
use Rattle.json_scripts.specs.Client.Retries.{classifier_at, classifiers_at, code_at, retry_choice_at}
use Rattle.json_scripts.specs.Client.Schemes.{api_key_at, http_scheme_at, http_schemes_at, http_schemes_of, is_alone, location_at, null_at, only_says, placed, prefix_at}
use Rattle.json_scripts.specs.declared.client.terms.HttpSchemeChoice.{HttpSchemeChoice}
use Rattle.http_schemes.specs.declared.api_key.ApiKeyLocation.{ApiKeyLocation}
use Rattle.http_schemes.specs.declared.api_key.ApiKeyLocation.TheVariants.{Header, Query}
use Rattle.laws_program.proofs.client_scripts.Counted.{AreFound, IsFound, all_counted, member_found}
use Rattle.laws_program.proofs.client_scripts.Outsides.{records_plain, sources_plain}
use Rattle.laws_program.proofs.scripts.PlainForms.{Plain, Refuses, always, below_plain, bool_plain, kept, number_plain, optional_plain, part, quadruple_plain, quintuple_plain, rows_plain, said_or, says_plain, sextuple_plain, str_plain, tag_plain, tagged_plain, texts_plain, word_plain}
use Rattle.laws_program.proofs.scripts.PlainMembers.{none_some, some_same}
use Rattle.laws_program.proofs.scripts.PlainSettings.{retry_plain, stall_plain, timeouts_plain}
use Rattle.laws_program.proofs.scripts.PlainValues.{payload_plain}

-- ---- buckets

pub bucket_plain : Refuses bucket_terms_at
unfolding bucket_terms_at Holds
bucket_plain d =
    step _ _ (sextuple_at d) _ (sextuple_plain d) (λ p whole.
    part number_at number_plain p.0 _ _ (λ h c.
    part (number_below (2 ^ 32)) (below_plain (2 ^ 32)) p.1 _ _ (λ i r.
    part (number_below (2 ^ 32)) (below_plain (2 ^ 32)) p.2 _ _ (λ j t.
    part (number_below (2 ^ 32)) (below_plain (2 ^ 32)) p.3 _ _ (λ k u.
    part number_at number_plain p.4 _ _ (λ l w.
    part number_at number_plain p.5 _ _ (λ m f. whole h i j k l m)))))))

pub buckets_plain : Refuses buckets_at
unfolding buckets_at
buckets_plain d = rows_plain bucket_terms_at bucket_plain d

-- ---- schemes of HTTP

location_plain : Refuses location_at
unfolding location_at Holds
location_plain d = said_or (codes "Header") d _ _ (said_or (codes "Query") d _ _ tt)

null_plain : Refuses null_at
unfolding null_at Holds
null_plain null = refl
null_plain (boolean b) = tt
null_plain (number n) = tt
null_plain (string s) = tt
null_plain (array ds) = tt
null_plain (object ms) = tt

prefix_plain : (l : ApiKeyLocation) → Refuses (prefix_at l)
unfolding prefix_at
prefix_plain Header d = optional_plain as_str str_plain d
prefix_plain Query d = null_plain d

api_key_plain : Refuses api_key_at
unfolding api_key_at Holds
api_key_plain d =
    step _ _ (quadruple_at d) _ (quadruple_plain d) (λ p whole.
    part (word_at (codes "api_key")) (word_plain (codes "api_key")) p.0 _ _ (λ h _.
    part location_at location_plain p.1 _ _ (λ i l.
    part as_str str_plain p.2 _ _ (λ j n.
    part (prefix_at l) (prefix_plain l) p.3 _ _ (λ k x. whole h i j k)))))

alone_plain : (word : List ℕ) (d : Data) → is_alone word d ≡ true → Plain d
unfolding is_alone only_says
alone_plain word null h = refl
alone_plain word (boolean b) h = refl
alone_plain word (number n) h = absurd (cc)
alone_plain word (string s) h = refl
alone_plain word (array no_items) h = refl
alone_plain word (array (item d no_items)) h = or_from (has_float d) false (says_plain word d h) refl
alone_plain word (array (item d (item e ds))) h = absurd (cc)
alone_plain word (object ms) h = absurd (cc)

http_scheme_plain : Refuses http_scheme_at
unfolding http_scheme_at Holds
http_scheme_plain d = either_by _ (is_alone (codes "bearer") d) _ _ (alone_plain (codes "bearer") d) (λ _. kept (Plain d) (api_key_at d) _ (api_key_plain d))

http_schemes_plain : Refuses http_schemes_at
unfolding http_schemes_at
http_schemes_plain d = rows_plain http_scheme_at http_scheme_plain d

-- the member may be left out
schemes_member : (o : Option Data) → Holds (λ _. (e : Data) → o ≡ Some e → Plain e) (http_schemes_of o)
unfolding Holds
schemes_member None = λ e g. absurd (none_some None e refl g)
schemes_member (Some d) = weaker (λ _. Plain d) (λ _. (e : Data) → Some d ≡ Some e → Plain e) (http_schemes_at d) (http_schemes_plain d) (λ _ p e g. subst Plain (some_same d e g) p)

-- ---- auth

lazy_plain : Refuses lazy_at
unfolding lazy_at Holds
lazy_plain d =
    step _ _ (quadruple_at d) _ (quadruple_plain d) (λ p whole.
    part number_at number_plain p.0 _ _ (λ h b.
    part number_at number_plain p.1 _ _ (λ i e.
    part number_at number_plain p.2 _ _ (λ j m.
    part (optional_at number_at) (optional_plain number_at number_plain) p.3 _ _ (λ k t. always (Plain d) _ (whole h i j k))))))

cache_plain : Refuses cache_at
unfolding cache_at
cache_plain d = said_or (codes "none") d _ _ (tagged_plain (codes "lazy") lazy_at lazy_plain d)

auth_schemes_plain : (https : List HttpSchemeChoice) → Refuses (auth_schemes_at https)
unfolding auth_schemes_at Holds
auth_schemes_plain https d =
    step _ _ (quintuple_at d) _ (quintuple_plain d) (λ p whole.
    part cache_at cache_plain p.4 _ _ (λ l c.
    part texts_at texts_plain p.0 _ _ (λ h o.
    part texts_at texts_plain p.1 _ _ (λ i s.
    past _ (placed s https) _ (λ _.
    part sources_at sources_plain p.2 _ _ (λ j t.
    part (optional_at texts_at) (optional_plain texts_at texts_plain) p.3 _ _ (λ k f. whole h i j k l)))))))

auth_plain : (https : List HttpSchemeChoice) → Refuses (auth_at https)
unfolding auth_at
auth_plain https d =
    either_by _ (says (codes "none") d) _ _ (λ e. always (Plain d) (unsigned https) (says_plain (codes "none") d e))
    (λ _. kept (Plain d) (auth_schemes_at https d) _ (auth_schemes_plain https d))

-- ---- retries and classifiers

retry_choice_plain : Refuses retry_choice_at
unfolding retry_choice_at
retry_choice_plain d = said_or (codes "never") d _ _ (kept (Plain d) (retry_at d) _ (retry_plain d))

code_plain : Refuses code_at
unfolding code_at
code_plain d = below_plain (2 ^ 16) d

-- a list beside a tag
tagged_rows : {X : Type 0} (tag : List ℕ) (f : Data → Option X) → Refuses f → (d : Data) → Holds (λ (xs : List X). Plain d) (tagged_at tag d >>= as_array >>= list_of f)
unfolding Holds
tagged_rows {X} tag f h d = by_found (tagged_at tag d) (tag_plain tag d)
  where
    by_found : (o : Option Data) → Holds (λ x. Plain x → Plain d) o → Holds (λ (xs : List X). Plain d) (o >>= as_array >>= list_of f)
    by_found None i = tt
    by_found (Some x) i = weaker (λ (xs : List X). Plain x) (λ (xs : List X). Plain d) (as_array x >>= list_of f) (rows_plain f h x) (λ _. i)

classifier_plain : Refuses classifier_at
unfolding classifier_at
classifier_plain d =
    said_or (codes "modeled") d _ _
    (said_or (codes "transient") d _ _ (kept (Plain d) (tagged_at (codes "status") d >>= as_array >>= list_of code_at) _ (tagged_rows (codes "status") code_at code_plain d)))

classifiers_plain : Refuses classifiers_at
unfolding classifiers_at
classifiers_plain d = rows_plain classifier_at classifier_plain d

-- ---- objects of so many members

pub counted : (n : ℕ) (ms : Members) → Holds (λ _. member_count ms ≡ n) (members_at n (object ms))
unfolding members_at Holds
counted n ms = either_by _ (member_count ms == n) (Some tt) None (λ e. eqb-true (member_count ms) n e) (λ _. tt)

-- where nothing is read but an object of so many members
pub by_count : {X : Type 0} (count : Data → ℕ) (rest : Data → Option X) → ((ms : Members) → Holds (λ (x : X). Plain (object ms)) (members_at (count (object ms)) (object ms) >>= λ _. rest (object ms)))
    → Refuses (λ d. members_at (count d) d >>= λ _. rest d)
unfolding members_at Holds
by_count count rest f null = tt
by_count count rest f (boolean b) = tt
by_count count rest f (number n) = tt
by_count count rest f (string s) = tt
by_count count rest f (array ds) = tt
by_count count rest f (object ms) = f ms

-- ---- a client object

abbrev HasFlags : Members → Type 0
HasFlags ms = IsFound (codes "sleep") ms × IsFound (codes "time") ms × IsFound (codes "poisoning") ms × IsFound (codes "enforce") ms × IsFound (codes "v2") ms

flag_found : (k : List ℕ) (ms : Members) → Holds (λ _. IsFound k ms) (get_member k ms >>= as_bool)
flag_found k ms = member_found as_bool bool_plain k ms

flags_found : (ms : Members) → Holds (λ _. HasFlags ms) (flags_at (object ms))
unfolding flags_at Holds
flags_found ms =
    step _ _ (get_member (codes "sleep") ms >>= as_bool) _ (flag_found (codes "sleep") ms) (λ _ s.
    step _ _ (get_member (codes "time") ms >>= as_bool) _ (flag_found (codes "time") ms) (λ _ t.
    step _ _ (get_member (codes "poisoning") ms >>= as_bool) _ (flag_found (codes "poisoning") ms) (λ _ p.
    step _ _ (get_member (codes "enforce") ms >>= as_bool) _ (flag_found (codes "enforce") ms) (λ _ e.
    step _ _ (get_member (codes "v2") ms >>= as_bool) _ (flag_found (codes "v2") ms) (λ _ v. (s, t, p, e, v))))))

abbrev HasRules : Members → Type 0
HasRules ms = HasFlags ms × IsFound (codes "bucket") ms × IsFound (codes "retry") ms × IsFound (codes "timeouts") ms × IsFound (codes "stall") ms

rules_found : (buckets : ℕ) (ms : Members) → Holds (λ _. HasRules ms) (rules_at buckets (object ms))
unfolding rules_at Holds
rules_found buckets ms =
    step _ _ (flags_at (object ms)) _ (flags_found ms) (λ _ flags.
    step _ _ (get_member (codes "bucket") ms >>= optional_at (number_below buckets)) _ (member_found (optional_at (number_below buckets)) (optional_plain (number_below buckets) (below_plain buckets)) (codes "bucket") ms) (λ _ b.
    step _ _ (get_member (codes "retry") ms >>= retry_choice_at) _ (member_found retry_choice_at retry_choice_plain (codes "retry") ms) (λ _ r.
    step _ _ (get_member (codes "timeouts") ms >>= timeouts_at) _ (member_found timeouts_at timeouts_plain (codes "timeouts") ms) (λ _ t.
    step _ _ (get_member (codes "stall") ms >>= optional_at stall_at) _ (member_found (optional_at stall_at) (optional_plain stall_at stall_plain) (codes "stall") ms) (λ _ s. (flags, b, r, t, s))))))

abbrev HasTarget : Members → Type 0
HasTarget ms = IsFound (codes "service") ms × IsFound (codes "operation") ms × IsFound (codes "url") ms × IsFound (codes "prefix") ms

text_found : (k : List ℕ) (ms : Members) → Holds (λ _. IsFound k ms) (text_member k (object ms))
unfolding text_member
text_found k ms = member_found as_str str_plain k ms

target_found : (ms : Members) → Holds (λ _. HasTarget ms) (target_at (object ms))
unfolding target_at Holds
target_found ms =
    step _ _ (text_member (codes "service") (object ms)) _ (text_found (codes "service") ms) (λ _ s.
    step _ _ (text_member (codes "operation") (object ms)) _ (text_found (codes "operation") ms) (λ _ o.
    step _ _ (text_member (codes "url") (object ms)) _ (text_found (codes "url") ms) (λ _ u.
    step _ _ (get_member (codes "prefix") ms >>= optional_at as_str) _ (member_found (optional_at as_str) (optional_plain as_str str_plain) (codes "prefix") ms) (λ _ x. (s, o, u, x)))))

-- the names of the members that are always there
abbrev client_names : List (List ℕ)
client_names = codes "sleep" ∷ codes "time" ∷ codes "poisoning" ∷ codes "enforce" ∷ codes "v2" ∷ codes "bucket" ∷ codes "retry" ∷ codes "timeouts" ∷ codes "stall"
    ∷ codes "service" ∷ codes "operation" ∷ codes "url" ∷ codes "prefix" ∷ codes "classifiers" ∷ codes "auth" ∷ []

all_found : (ms : Members) → HasRules ms → HasTarget ms → IsFound (codes "classifiers") ms → IsFound (codes "auth") ms → AreFound client_names ms
all_found ms r t c a =
    let f = r.0 in
    (f.0, (f.1, (f.2, (f.3, (f.4, (r.1, (r.2, (r.3, (r.4, (t.0, (t.1, (t.2, (t.3, (c, (a, tt)))))))))))))))

-- the fifteen, or with the schemes of HTTP sixteen
with_schemes : (o : Option Data) (ms : Members) → get_member (codes "http_schemes") ms ≡ o → member_count ms ≡ (if is_some o then 16 else 15) → ((e : Data) → o ≡ Some e → Plain e) → AreFound client_names ms → Plain (object ms)
with_schemes None ms g count hs found = all_counted client_names ms refl found count
with_schemes (Some d) ms g count hs found = all_counted (codes "http_schemes" ∷ client_names) ms refl ((d, g, hs d refl), found) count

client_object : (buckets : ℕ) (ms : Members) → Holds (λ _. Plain (object ms)) (client_at buckets (object ms))
unfolding client_at Holds
client_object buckets ms =
    step _ _ (members_at (client_members (object ms)) (object ms)) _ (counted (client_members (object ms)) ms) (λ _ count.
    step _ _ (rules_at buckets (object ms)) _ (rules_found buckets ms) (λ _ r.
    step _ _ (get_member (codes "classifiers") ms >>= classifiers_at) _ (member_found classifiers_at classifiers_plain (codes "classifiers") ms) (λ _ c.
    step_at _ (get_member (codes "auth") ms) _ (λ a here.
    step _ _ (http_schemes_of (get_member (codes "http_schemes") ms)) _ (schemes_member (get_member (codes "http_schemes") ms)) (λ https hs.
    part (auth_at https) (auth_plain https) a _ _ (λ plain _.
    step _ _ (target_at (object ms)) _ (target_found ms) (λ _ t.
    with_schemes (get_member (codes "http_schemes") ms) ms refl count hs (all_found ms r t c (a, here, plain)))))))))

pub client_plain : (buckets : ℕ) → Refuses (client_at buckets)
unfolding client_at
client_plain buckets = by_count client_members _ (client_object buckets)

pub clients_plain : (buckets : ℕ) → Refuses (clients_at buckets)
unfolding clients_at
clients_plain buckets d = rows_plain (client_at buckets) (client_plain buckets) d

-- ---- what is invoked

stop_plain : Refuses stop_at
unfolding stop_at
stop_plain d = kept (Plain d) (as_str d) _ (str_plain d)

abbrev pub run_names : List (List ℕ)
run_names = codes "fuel" ∷ codes "stop" ∷ codes "input" ∷ codes "responses" ∷ []

pub run_found : (client : ℕ) (ms : Members) → Holds (λ _. AreFound run_names ms) (run_at client (object ms))
unfolding run_at Holds
run_found client ms =
    step _ _ (get_member (codes "fuel") ms >>= number_at) _ (member_found number_at number_plain (codes "fuel") ms) (λ _ f.
    step _ _ (get_member (codes "stop") ms >>= stop_at) _ (member_found stop_at stop_plain (codes "stop") ms) (λ _ s.
    step _ _ (get_member (codes "input") ms >>= payload_at) _ (member_found payload_at payload_plain (codes "input") ms) (λ _ i.
    step _ _ (get_member (codes "responses") ms >>= records_at) _ (member_found records_at records_plain (codes "responses") ms) (λ _ r. (f, (s, (i, (r, tt))))))))

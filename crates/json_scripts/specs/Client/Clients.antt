-- Which client objects a script spells.
use Rattle.std.specs.Prelude.{ℕ, List, Option, Some, codes, is_some, if◌then◌else◌}
use Rattle.serde_json.specs.Data.{Data}
use Rattle.serde_json.specs.Find.{as_bool, as_str, as_array, get}
use Rattle.json_forms.specs.Forms.{optional_at}
use Rattle.json_forms.specs.Lists.{list_of}
use Rattle.json_forms.specs.Plain.{number_below}
use Rattle.json_forms.specs.Reading.{◌>>=◌}
use Rattle.json_values.specs.SettingForms.{timeouts_at, stall_at}
use Rattle.json_scripts.specs.Client.Auth.{auth_at}
use Rattle.json_scripts.specs.Client.Members.{members_at}
use Rattle.json_scripts.specs.Client.Retries.{retry_choice_at, classifiers_at}
use Rattle.json_scripts.specs.Client.Schemes.{http_schemes_of}
use Rattle.json_scripts.specs.declared.client.terms.ClientFlags.{ClientFlags}
use Rattle.json_scripts.specs.declared.client.terms.ClientObject.{ClientObject}
use Rattle.json_scripts.specs.declared.client.terms.ClientRules.{ClientRules}
use Rattle.json_scripts.specs.declared.client.terms.ClientTarget.{ClientTarget}

-- what a client has and does, each true or false
unfoldable pub flags_at : Data → Option ClientFlags
flags_at d = get (codes "sleep") d >>= as_bool >>= λ s. get (codes "time") d >>= as_bool >>= λ t.
    get (codes "poisoning") d >>= as_bool >>= λ p. get (codes "enforce") d >>= as_bool >>= λ e.
    get (codes "v2") d >>= as_bool >>= λ v. Some (record { sleep = s; time = t; poisoning = p; enforce = e; v2 = v })

-- what a client goes by; its bucket is one of so many, or null
unfoldable pub rules_at : ℕ → Data → Option ClientRules
rules_at buckets d = flags_at d >>= λ flags. get (codes "bucket") d >>= optional_at (number_below buckets) >>= λ b.
    get (codes "retry") d >>= retry_choice_at >>= λ r. get (codes "timeouts") d >>= timeouts_at >>= λ t.
    get (codes "stall") d >>= optional_at stall_at >>= λ s.
    Some (record { bucket = b; retry = r; timeouts = t; stall = s; flags = flags })

-- a member that is a text
unfoldable pub text_member : List ℕ → Data → Option (List ℕ)
text_member name d = get name d >>= as_str

-- what a client calls: its service, operation, url, and a prefix or null
unfoldable pub target_at : Data → Option ClientTarget
target_at d = text_member (codes "service") d >>= λ s. text_member (codes "operation") d >>= λ o.
    text_member (codes "url") d >>= λ u. get (codes "prefix") d >>= optional_at as_str >>= λ x.
    Some (record { service = s; operation = o; url = u; prefix = x })

-- fifteen members, and `http_schemes` beside them where it isn't left out
abbrev pub client_members : Data → ℕ
client_members d = if is_some (get (codes "http_schemes") d) then 16 else 15

-- a client object of a script with so many buckets:
-- its members and no others, each of its form, and a bucket that there is
unfoldable pub client_at : ℕ → Data → Option ClientObject
client_at buckets d = members_at (client_members d) d >>= λ _. rules_at buckets d >>= λ r.
    get (codes "classifiers") d >>= classifiers_at >>= λ cs. get (codes "auth") d >>= λ a.
    http_schemes_of (get (codes "http_schemes") d) >>= λ hs. auth_at hs a >>= λ auth. target_at d >>= λ t.
    Some (record { target = t; rules = r; classifiers = cs; auth = auth })

-- the clients of a script with so many buckets
unfoldable pub clients_at : ℕ → Data → Option (List ClientObject)
clients_at buckets d = as_array d >>= list_of (client_at buckets)

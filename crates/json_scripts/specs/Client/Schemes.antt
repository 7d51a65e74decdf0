-- What a script spells of a client's schemes of HTTP.
use Rattle.std.specs.Prelude.{ℕ, List, [], Bool, true, false, ◌&&◌, ◌==◌, Option, Some, None, codes, bytes_eq}
use Rattle.std.specs.Prelude.{if◌then◌else◌}
use Rattle.std.specs.List.{list_all, list_any, count_by}
use Rattle.serde_json.specs.Data.{Data, null, array, Items, no_items, item}
use Rattle.serde_json.specs.Find.{as_array, as_str}
use Rattle.http_schemes.specs.declared.api_key.ApiKeyLocation.{ApiKeyLocation}
use Rattle.http_schemes.specs.declared.api_key.ApiKeyLocation.TheVariants.{Header, Query}
use Rattle.json_forms.specs.Forms.{says, word_at, optional_at}
use Rattle.json_forms.specs.Lists.{list_of}
use Rattle.json_forms.specs.Plain.{quadruple_at}
use Rattle.json_forms.specs.Reading.{◌>>=◌}
use Rattle.json_scripts.specs.declared.client.terms.ApiKeyChoice.{ApiKeyChoice}
use Rattle.json_scripts.specs.declared.client.terms.HttpSchemeChoice.{HttpSchemeChoice}
use Rattle.json_scripts.specs.declared.client.terms.HttpSchemeChoice.TheVariants.{Bearer, ApiKey}

-- ---- one scheme

-- an array of this word alone
unfoldable pub only_says : List ℕ → Items → Bool
only_says word (item d no_items) = says word d
only_says word _ = false

-- data that is an array of this word alone
unfoldable pub is_alone : List ℕ → Data → Bool
is_alone word (array ds) = only_says word ds
is_alone word _ = false

-- where an API key is put: into a header or into the query
unfoldable pub location_at : Data → Option ApiKeyLocation
location_at d = if says (codes "Header") d then Some Header else (if says (codes "Query") d then Some Query else None)

-- null alone, for what is absent
unfoldable pub null_at : Data → Option (Option (List ℕ))
null_at null = Some None
null_at _ = None

-- in a header a prefix or null, and in a query null
unfoldable pub prefix_at : ApiKeyLocation → Data → Option (Option (List ℕ))
prefix_at Header d = optional_at as_str d
prefix_at Query d = null_at d

-- a scheme that signs by an API key: where the key is, its name, and its prefix or null
unfoldable pub api_key_at : Data → Option ApiKeyChoice
api_key_at d = quadruple_at d >>= λ p. word_at (codes "api_key") p.0 >>= λ _. location_at p.1 >>= λ l.
    as_str p.2 >>= λ n. prefix_at l p.3 >>= λ x. Some (record { location = l; name = n; prefix = x })

-- `["bearer"]`, or `api_key` with where the key is, its name, and its prefix or null
unfoldable pub http_scheme_at : Data → Option HttpSchemeChoice
http_scheme_at d = if is_alone (codes "bearer") d then Some Bearer else (api_key_at d >>= λ k. Some (ApiKey k))

-- ---- all of a client

-- the schemes of HTTP of which a client says something
unfoldable pub http_schemes_at : Data → Option (List HttpSchemeChoice)
http_schemes_at d = as_array d >>= list_of http_scheme_at

-- the member, an empty list where it is left out
abbrev pub http_schemes_of : Option Data → Option (List HttpSchemeChoice)
http_schemes_of None = Some []
http_schemes_of (Some d) = http_schemes_at d

-- the id of a scheme of HTTP
abbrev pub id_of : HttpSchemeChoice → List ℕ
id_of Bearer = codes "http-bearer-auth"
id_of (ApiKey key) = codes "http-api-key-auth"

-- the scheme has this id
abbrev pub has_id : List ℕ → HttpSchemeChoice → Bool
has_id id h = bytes_eq (id_of h) id

-- the id is one of these
abbrev pub is_among : List (List ℕ) → List ℕ → Bool
is_among ids id = list_any (λ i. bytes_eq i id) ids

-- its id is one of these, and no other of all has it
abbrev pub is_placed : List (List ℕ) → List HttpSchemeChoice → HttpSchemeChoice → Bool
is_placed ids all h = is_among ids (id_of h) && (count_by (has_id (id_of h)) all == 1)

-- each is the one of its id, and that id is one of these
abbrev pub are_placed : List (List ℕ) → List HttpSchemeChoice → Bool
are_placed ids hs = list_all (is_placed ids hs) hs

-- the schemes of HTTP, where they belong to these ids and none stands twice
abbrev pub placed : List (List ℕ) → List HttpSchemeChoice → Option (List HttpSchemeChoice)
placed ids hs = if are_placed ids hs then Some hs else None

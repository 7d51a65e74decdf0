-- An endpoint over the cut of URIs that `http_uri` states, and the headers that it sets.
use Rattle.std.specs.Prelude.{◌≡◌, ℕ, ◌-◌, ◌++◌, ◌∷◌, [], ◌⊎◌, ⊤, if◌then◌else◌, List, length, ◌==◌, take, drop, fold}
use Rattle.std.specs.Prelude.{Option, None, Some, unwrap_or, codes, bytes_eq}
use Rattle.http_uri.specs.declared.uri.Uri.{Uri as Target}
use Rattle.http_uri.specs.Uri.{uri_scheme, uri_authority, uri_path, uri_query, uri_text, Spells, SpellsNone}
use Rattle.http_uri.specs.Grammar.{IsAuthority}
use Rattle.http_header.specs.HeaderMap.{append, remove, RefusesAppend}
use Rattle.http_header.specs.FieldValue.{IsFieldValue, plain_value}
use Rattle.http_header.specs.FieldName.{IsFieldName}
use Rattle.http_header.specs.Token.{lowercase}
use Rattle.smithy_types.specs.HeaderList.{HeaderList}
use Rattle.smithy_types.specs.declared.identity.Endpoint.{Endpoint}
use Rattle.smithy_types.specs.declared.identity.EndpointHeader.{EndpointHeader}
use Rattle.smithy_types.specs.declared.http.HttpRequest.{HttpRequest}
use Rattle.auth_endpoint.specs.declared.endpoint_error.EndpointError.{EndpointError}
use Rattle.auth_endpoint.specs.declared.endpoint_error.EndpointError.TheVariants.{BadUrl, BadAuthority, NoScheme}
use Rattle.auth_endpoint.specs.declared.endpoint_error.EndpointError.TheVariants.{BadUri, BadHeader, OutOfMemory}

-- what a refusal prints
abbrev pub refusal_text : EndpointError → List ℕ
refusal_text BadUrl = codes "BadUrl"
refusal_text BadAuthority = codes "BadAuthority"
refusal_text NoScheme = codes "NoScheme"
refusal_text BadUri = codes "BadUri"
refusal_text BadHeader = codes "BadHeader"
refusal_text OutOfMemory = codes "out of memory"

-- each refusal has its cause, and want of memory says nothing
abbrev pub HasCause : Type 0 → Type 0 → Type 0 → Type 0 → Type 0 → EndpointError → Type 0
HasCause url authority scheme uri header BadUrl = url
HasCause url authority scheme uri header BadAuthority = authority
HasCause url authority scheme uri header NoScheme = scheme
HasCause url authority scheme uri header BadUri = uri
HasCause url authority scheme uri header BadHeader = header
HasCause url authority scheme uri header OutOfMemory = ⊤

-- ---- the text

-- the prefix and the endpoint's authority, one behind the other
abbrev pub joined_authority : Option (List ℕ) → Target → List ℕ
joined_authority prefix endpoint = unwrap_or prefix [] ++ unwrap_or (uri_authority endpoint) []

-- the text without its last byte, where that is a slash
abbrev pub without_last_slash : List ℕ → List ℕ
without_last_slash text =
    if bytes_eq (drop (length text - 1) text) (codes "/") then take (length text - 1) text else text

-- the text without its first byte, where that is a slash
abbrev pub without_first_slash : List ℕ → List ℕ
without_first_slash text = if bytes_eq (take 1 text) (codes "/") then drop 1 text else text

-- the path, behind the endpoint's where that isn't empty
abbrev pub merged_path : List ℕ → List ℕ → List ℕ
merged_path path front =
    if length front == 0 then path else without_last_slash front ++ codes "/" ++ without_first_slash path

-- the query behind its mark, if there is one
abbrev pub query_text : Option (List ℕ) → List ℕ
query_text None = []
query_text (Some query) = codes "?" ++ query

-- the scheme, the joined authority, the merged path and the request's query; the endpoint's query is ignored
abbrev pub whole_text : List ℕ → List ℕ → Target → Target → List ℕ
whole_text scheme joined uri endpoint =
    scheme ++ codes "://" ++ joined ++ merged_path (uri_path uri) (uri_path endpoint) ++ query_text (uri_query uri)

-- the endpoint has this scheme and the joined authority is one
pub record HasFront (endpoint : Target) (prefix : Option (List ℕ)) (scheme : List ℕ) : Type 0 where
  pub authority : IsAuthority (joined_authority prefix endpoint)
  pub has_scheme : uri_scheme endpoint ≡ Some scheme

-- the URI is what the whole text spells
abbrev pub IsApplied : Target → Target → Option (List ℕ) → Target → Type 0
IsApplied uri endpoint prefix applied =
    (scheme : List ℕ) × HasFront endpoint prefix scheme
    × Spells (whole_text scheme (joined_authority prefix endpoint) uri endpoint) applied

-- the causes of a refused URI, in their order
abbrev pub CantApply : Target → Target → Option (List ℕ) → EndpointError → Type 0
CantApply uri endpoint prefix =
    HasCause ⊥
    (¬ (IsAuthority (joined_authority prefix endpoint)))
    (IsAuthority (joined_authority prefix endpoint) × (uri_scheme endpoint ≡ None))
    ((scheme : List ℕ) × HasFront endpoint prefix scheme
    × SpellsNone (whole_text scheme (joined_authority prefix endpoint) uri endpoint))
    ⊥

-- ---- the headers

-- some item is refused behind the earlier ones
abbrev pub RefusesSome : {S X : Type 0} → (S → X → S) → (S → X → Type 0) → S → List X → Type 0
RefusesSome step refuses state [] = ⊥
RefusesSome step refuses state (x ∷ xs) = refuses state x ⊎ RefusesSome step refuses (step state x) xs

-- the value behind those of the name
abbrev pub with_value : List ℕ → HeaderList → List ℕ → HeaderList
with_value name map value = append map name (plain_value value)

-- the value is none, or there is no room for it
abbrev pub RefusesValue : List ℕ → HeaderList → List ℕ → Type 0
RefusesValue name map value = ¬ (IsFieldValue value) ⊎ RefusesAppend map name

-- the header's values, in order, in place of all those of its name
abbrev pub with_header : HeaderList → EndpointHeader → HeaderList
with_header map header = fold (with_value (lowercase header.name)) (remove map (lowercase header.name)) header.values

-- the header's name is none, or one of its values is refused
abbrev pub RefusesHeader : HeaderList → EndpointHeader → Type 0
RefusesHeader map header =
    ¬ (IsFieldName header.name)
    ⊎ RefusesSome (with_value (lowercase header.name)) (RefusesValue (lowercase header.name))
    (remove map (lowercase header.name)) header.values

-- each header set after the other
abbrev pub with_headers : HeaderList → List EndpointHeader → HeaderList
with_headers map headers = fold with_header map headers

-- some header is refused behind the earlier ones
abbrev pub RefusesHeaders : HeaderList → List EndpointHeader → Type 0
RefusesHeaders map headers = RefusesSome with_header RefusesHeader map headers

-- ---- the request

-- the request's target and the endpoint's URL are cut so
pub record AreRead (target front : List ℕ) (uri url : Target) : Type 0 where
  pub target_spells : Spells target uri
  pub front_spells : Spells front url

-- what is so of the two cuts
abbrev pub Reading : List ℕ → List ℕ → (Target → Target → Type 0) → Type 0
Reading target front P = (uri : Target) × (url : Target) × AreRead target front uri url × P uri url

-- the text is that of the applied URI
abbrev pub IsAppliedText : Target → Target → Option (List ℕ) → List ℕ → Type 0
IsAppliedText uri url prefix text = (applied : Target) × IsApplied uri url prefix applied × (text ≡ uri_text applied)

-- the causes of a refused target, in their order
abbrev pub CantRead : List ℕ → List ℕ → Option (List ℕ) → EndpointError → Type 0
CantRead target front prefix =
    HasCause
    (SpellsNone target ⊎ SpellsNone front)
    (Reading target front (λ uri url. CantApply uri url prefix BadAuthority))
    (Reading target front (λ uri url. CantApply uri url prefix NoScheme))
    (Reading target front (λ uri url. CantApply uri url prefix BadUri))
    ⊥

-- the request goes to the applied URI, with the endpoint's headers; the rest of it stays
pub record IsSent (old : HttpRequest) (endpoint : Endpoint) (prefix : Option (List ℕ))
    (new : HttpRequest) : Type 0 where
  pub target : List ℕ
  pub applied : Reading old.uri endpoint.url (λ uri url. IsAppliedText uri url prefix target)
  pub request : new ≡ record old { uri = target; headers = with_headers old.headers endpoint.headers }
  pub headers_fit : ¬ (RefusesHeaders old.headers endpoint.headers)

-- the target is applied, and a header is refused
pub record HasBadHeader (request : HttpRequest) (endpoint : Endpoint) (prefix : Option (List ℕ)) : Type 0 where
  pub target : List ℕ
  pub applied : Reading request.uri endpoint.url (λ uri url. IsAppliedText uri url prefix target)
  pub refused : RefusesHeaders request.headers endpoint.headers

-- the causes of a refused request, in their order
abbrev pub CantSend : HttpRequest → Endpoint → Option (List ℕ) → EndpointError → Type 0
CantSend request endpoint prefix BadUrl = CantRead request.uri endpoint.url prefix BadUrl
CantSend request endpoint prefix BadAuthority = CantRead request.uri endpoint.url prefix BadAuthority
CantSend request endpoint prefix NoScheme = CantRead request.uri endpoint.url prefix NoScheme
CantSend request endpoint prefix BadUri = CantRead request.uri endpoint.url prefix BadUri
CantSend request endpoint prefix BadHeader = HasBadHeader request endpoint prefix
CantSend request endpoint prefix OutOfMemory = ⊤

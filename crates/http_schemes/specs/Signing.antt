-- What signing makes of a request.
use Rattle.std.specs.Prelude.{◌≡◌, ◌⊎◌, ◌++◌, ℕ, List, Option, None, Some, codes, true}
use Rattle.http_header.specs.HeaderMap.{insert, RefusesInsert}
use Rattle.http_header.specs.FieldValue.{FieldValue, IsFieldValue}
use Rattle.http_header.specs.FieldName.{IsFieldName}
use Rattle.http_header.specs.Token.{lowercase}
use Rattle.smithy_types.specs.HeaderList.{HeaderList}
use Rattle.smithy_types.specs.declared.http.HttpRequest.{HttpRequest}
use Rattle.auth_endpoint.specs.declared.scheme.Signed.{Signed}
use Rattle.auth_endpoint.specs.declared.scheme.Signed.TheVariants.{Request, Failed}
use Rattle.http_schemes.specs.declared.api_key.ApiKeyLocation.{ApiKeyLocation}
use Rattle.http_schemes.specs.declared.api_key.ApiKeyLocation.TheVariants.{Header, Query}
use Rattle.http_schemes.specs.Query.{IsTargetSigned, RefusesTarget}

-- the answer is the value where nothing refuses it
abbrev pub Unless : {X : Type 0} → Type 0 → X → Option X → Type 0
Unless refused x None = refused
Unless refused x (Some y) = (y ≡ x) × ¬ refused

-- the value of a header that isn't shown for debugging
abbrev pub secret_value : List ℕ → FieldValue
secret_value bytes = record { bytes = bytes; is_sensitive = true }

-- the value, as a secret, in place of all those of the name
abbrev pub with_header : HeaderList → List ℕ → List ℕ → HeaderList
with_header headers name value = insert headers (lowercase name) (secret_value value)

-- the name is none, or the value is none, or the name is new and the map is full
abbrev pub RefusesHeader : HeaderList → List ℕ → List ℕ → Type 0
RefusesHeader headers name value =
    ¬ (IsFieldName name) ⊎ (¬ (IsFieldValue value) ⊎ RefusesInsert headers (lowercase name))

-- the header is set and the rest of the request stays, or the header is refused
abbrev pub SignsByHeader : List ℕ → List ℕ → HttpRequest → Signed → Type 0
SignsByHeader name value old (Request new) =
    (new ≡ record old { headers = with_header old.headers name value }) × ¬ (RefusesHeader old.headers name value)
SignsByHeader name value old (Failed text) = (text ≡ codes "BadHeader") × RefusesHeader old.headers name value

-- the target has the key and the rest of the request stays, or there is no such target
abbrev pub SignsByQuery : List ℕ → List ℕ → HttpRequest → Signed → Type 0
SignsByQuery name key old (Request new) =
    (target : List ℕ) × IsTargetSigned name key old.uri target × (new ≡ record old { uri = target })
SignsByQuery name key old (Failed text) = (text ≡ codes "BadUrl") × RefusesTarget name key old.uri

-- the key behind the prefix and a space, if there is a prefix
abbrev pub prefixed : Option (List ℕ) → List ℕ → List ℕ
prefixed None key = key
prefixed (Some prefix) key = prefix ++ codes " " ++ key

-- by the header of the name, or by the query, which takes no prefix
abbrev pub SignsByKey : ApiKeyLocation → List ℕ → Option (List ℕ) → List ℕ → HttpRequest → Signed → Type 0
SignsByKey Header name prefix key = SignsByHeader name (prefixed prefix key)
SignsByKey Query name prefix key = SignsByQuery name key

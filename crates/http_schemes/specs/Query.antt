-- A key in the query of a request's target, over the cut of URIs that `http_uri` states.
use Rattle.std.specs.Prelude.{◌≡◌, ◌⊎◌, ℕ, not, ◌==◌, List, [], ◌∷◌, ◌++◌, length, filter, if◌then◌else◌, bytes_eq}
use Rattle.std.specs.Prelude.{codes, Option, None, Some, unwrap_or}
use Rattle.std.specs.List.{slice_split, before_first, join_with_byte}
use Rattle.http_uri.specs.declared.uri.Uri.{Uri as Target}
use Rattle.http_uri.specs.Uri.{uri_scheme, uri_authority, uri_path, uri_query, Spells, SpellsNone}
use Rattle.http_schemes.specs.Encoding.{encoded}

-- the query cut at each `&`; an empty one has no pieces
abbrev pub pieces : Option (List ℕ) → List (List ℕ)
pieces None = []
pieces (Some query) = if length query == 0 then [] else slice_split (λ b. b == 38) query

-- a piece's text before its first `=`, or all of it
abbrev pub piece_name : List ℕ → List ℕ
piece_name piece = before_first (λ b. b == 61) piece

-- the pieces of another name, in order
abbrev pub other_pieces : List ℕ → Option (List ℕ) → List (List ℕ)
other_pieces name query = filter (λ piece. not (bytes_eq (piece_name piece) name)) (pieces query)

-- the piece and an `&`, unless it has the name
abbrev pub kept_text : List ℕ → List ℕ → List ℕ
kept_text name piece = if not (bytes_eq (piece_name piece) name) then piece ++ codes "&" else []

-- the pieces of another name, and last that of the name with the value
abbrev pub query_with : Option (List ℕ) → List ℕ → List ℕ → List ℕ
query_with query name value = join_with_byte 38 (other_pieces name query ++ (name ++ codes "=" ++ value) ∷ [])

-- a scheme and the mark behind it, if there is one
abbrev pub scheme_text : Option (List ℕ) → List ℕ
scheme_text None = []
scheme_text (Some scheme) = scheme ++ codes "://"

-- the URI with this key in its query: the scheme, the authority and the path stay, a fragment goes
abbrev pub signed_text : List ℕ → List ℕ → Target → List ℕ
signed_text name key uri =
    scheme_text (uri_scheme uri) ++ unwrap_or (uri_authority uri) [] ++ uri_path uri ++ codes "?"
    ++ query_with (uri_query uri) (encoded name) (encoded key)

-- the URI has this query, and the scheme, the authority and the path of the old one
pub record HasOtherQuery (old new : Target) (query : List ℕ) : Type 0 where
  pub same_scheme : uri_scheme new ≡ uri_scheme old
  pub same_authority : uri_authority new ≡ uri_authority old
  pub same_path : uri_path new ≡ uri_path old
  pub has_query : uri_query new ≡ Some query

-- the URI that the text spells, where it spells one
abbrev pub IsReadAs : List ℕ → Option Target → Type 0
IsReadAs text None = SpellsNone text
IsReadAs text (Some uri) = Spells text uri

-- the new target is the URI of the old one with the key, and a URI too
pub record IsTargetSigned (name key old new : List ℕ) : Type 0 where
  pub uri : Target
  pub old_spells : Spells old uri
  pub new_is : new ≡ signed_text name key uri
  pub signed : Target
  pub new_spells : Spells new signed

-- the old target is no URI, or it would be none with the key
abbrev pub RefusesTarget : List ℕ → List ℕ → List ℕ → Type 0
RefusesTarget name key old = SpellsNone old ⊎ ((uri : Target) × Spells old uri × SpellsNone (signed_text name key uri))

-- the text, where it is a URI
abbrev pub IsChecked : List ℕ → Option (List ℕ) → Type 0
IsChecked text None = SpellsNone text
IsChecked text (Some same) = (same ≡ text) × ((uri : Target) × Spells same uri)

-- the signed target, or that there is none
abbrev pub SignsTarget : List ℕ → List ℕ → List ℕ → Option (List ℕ) → Type 0
SignsTarget name key old None = RefusesTarget name key old
SignsTarget name key old (Some new) = IsTargetSigned name key old new

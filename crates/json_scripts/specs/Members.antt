-- Objects that have no member beside those that are named.
use Rattle.std.specs.Prelude.{ℕ, List, Bool, true, ◌&&◌, Option, Some, None, nat_eq, if◌then◌else◌}
use Rattle.std.specs.Cmp.Lexicographic.{pointwise}
use Rattle.std.specs.List.{list_any}
use Rattle.serde_json.specs.Data.{Data, Members, no_members, member}
use Rattle.serde_json.specs.Find.{as_object}
use Rattle.json_forms.specs.Reading.{◌>>=◌}

-- the word is this name
abbrev pub is_name : List ℕ → List ℕ → Bool
is_name name word = pointwise nat_eq word name

-- the word is one of these names
abbrev pub is_among : List (List ℕ) → List ℕ → Bool
is_among names word = list_any (λ name. is_name name word) names

-- each key passes the test
abbrev pub members_all : (List ℕ → Bool) → Members → Bool
members_all p no_members = true
members_all p (member k d ms) = p k && members_all p ms

-- an object with no member beside those that are named
unfoldable pub only_among : List (List ℕ) → Data → Option (Unit {0})
only_among names d = as_object d >>= λ ms. if members_all (is_among names) ms then Some tt else None

-- Which responses are errors of a name.
use Rattle.std.specs.Prelude.{ℕ, Bool, true, false, ◌&&◌, ◌==◌, nat_eq, is_some, List, Option, None, Some}
use Rattle.std.specs.Cmp.Lexicographic.{pointwise}
use Rattle.std.specs.List.{list_all, list_any}
use Rattle.http_header.specs.FieldValue.{FieldValue}
use Rattle.http_header.specs.HeaderMap.{get_all, pairs}
use Rattle.memchr.specs.Find.{first_of, matches}
use Rattle.smithy_types.specs.HeaderList.{HeaderList}
use Rattle.smithy_types.specs.declared.http.Body.{Body}
use Rattle.smithy_types.specs.declared.http.Body.TheVariants.{Bytes, Once, Taken}
use Rattle.smithy_types.specs.declared.http.HttpResponse.{HttpResponse}
use Rattle.host_session.specs.declared.service.deserializer.ErrorRule.{ErrorRule}

-- a value of that name has these bytes
abbrev pub has_header : HeaderList → List ℕ × FieldValue → Bool
has_header headers wanted = list_any (λ v. pointwise nat_eq v.bytes (wanted.1).bytes) (get_all headers wanted.0)

-- each of the wanted ones is among the headers
abbrev pub has_headers : HeaderList → HeaderList → Bool
has_headers headers wanted = list_all (has_header headers) (pairs wanted)

-- the word stands somewhere in the bytes
abbrev pub occurs : List ℕ → List ℕ → Bool
occurs bytes word = is_some (first_of (matches bytes word 0))

-- the word stands somewhere in the body, whose bytes are there
abbrev pub holds : Body → List ℕ → Bool
holds (Bytes bytes) word = occurs bytes word
holds (Once bytes) word = occurs bytes word
holds Taken word = false

-- the same where there may be no word
abbrev pub holds_optional : Body → Option (List ℕ) → Bool
holds_optional body None = true
holds_optional body (Some word) = holds body word

-- the response has the status, the headers and the word of the rule
abbrev pub meets : HttpResponse → ErrorRule → Bool
meets response rule =
    rule.status == response.status && has_headers response.headers rule.headers
    && holds_optional response.body rule.word

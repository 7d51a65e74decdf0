-- What is a text, by the test and by the fact.
use Rattle.std.proofs.Common.{◌≡◌, ℕ, List, [], Bool, true, false, Option, None, Some, refl, sym, ap, true≢false}
use Rattle.std.specs.Str.{IsUtf8, is_utf8}
use Rattle.std.proofs.lemmas.Str.{IsUtf8-from_is_utf8, is_utf8-from_IsUtf8}
use Rattle.serde_json.specs.Read.{read}
use Rattle.json_payloads.specs.Payloads.{data_of_bytes}
use Rattle.json_payloads.specs.Base64.{is_same}
use Rattle.std.specs.Prelude.{unwrap_or, is_some}
use Rattle.std.proofs.lemmas.Slice.Eq.{bytes_eq-Decides}

-- what UTF-8 reads as
pub its_data : (bytes : List ℕ) → IsUtf8 bytes → data_of_bytes bytes ≡ read bytes
unfolding data_of_bytes
its_data bytes h = rw (is_utf8-from_IsUtf8 bytes h) refl

by_test : (bytes : List ℕ) (t : Bool) → is_utf8 bytes ≡ t → (IsUtf8 bytes → ⊥) → is_utf8 bytes ≡ false
by_test bytes true e h = absurd (h (IsUtf8-from_is_utf8 bytes e))
by_test bytes false e h = e

-- other bytes are no text
pub no_data : (bytes : List ℕ) → (IsUtf8 bytes → ⊥) → data_of_bytes bytes ≡ None
unfolding data_of_bytes
no_data bytes h = rw (by_test bytes (is_utf8 bytes) refl h) refl

pub ruleset by_utf8 = (its_data, no_data)

-- what is decoded as the same bytes is the same
pub same_bytes : (bytes : List ℕ) (o : Option (List ℕ)) → o ≡ Some bytes → is_same bytes o ≡ true
same_bytes bytes None e = absurd (true≢false (sym (ap is_some e)))
same_bytes bytes (Some found) e = (bytes_eq-Decides found bytes).1 (ap (λ (q : Option (List ℕ)). unwrap_or q []) e)

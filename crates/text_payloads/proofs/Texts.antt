-- What is a text, by the test and by the fact.
use Rattle.std.proofs.Common.{◌≡◌, refl, ℕ, Bool, true, false, List, arith}
use Rattle.std.specs.Str.{IsUtf8, is_utf8}
use Rattle.std.proofs.lemmas.Str.{IsUtf8-from_is_utf8, is_utf8-from_IsUtf8}
use Rattle.text_payloads.specs.Text.{is_text}

-- bytes in UTF-8 are a text of any kind
pub is_its_text : (kind : ℕ) (bytes : List ℕ) → IsUtf8 bytes → is_text kind (record { kind = kind; bytes = bytes }) ≡ true
is_its_text kind bytes h = rw (is_utf8-from_IsUtf8 bytes h) (grind arith)

by_test : (bytes : List ℕ) (t : Bool) → is_utf8 bytes ≡ t → (IsUtf8 bytes → ⊥) → is_utf8 bytes ≡ false
by_test bytes true e h = absurd (h (IsUtf8-from_is_utf8 bytes e))
by_test bytes false e h = e

-- and others aren't
pub not_utf8 : (bytes : List ℕ) → (IsUtf8 bytes → ⊥) → is_utf8 bytes ≡ false
not_utf8 bytes h = by_test bytes (is_utf8 bytes) refl h

-- What reads as a length is visible text.
use Rattle.std.proofs.Common.{◌≡◌, ℕ, ◌<◌, ◌==◌, List, [], ◌∷◌, Bool, true, false, cond, drop, arith, refl}
use Rattle.std.proofs.lemmas.Bool.Decides.{nat_tests}
use Rattle.std.proofs.lemmas.List.Elements.{All-from_recursion}
use Rattle.std.specs.Char.{digit_value}
use Rattle.std.specs.List.{AllByRecursion}
use Rattle.std.specs.Str.Parse.{AllDigits, IsNumeral, without_leading_plus}
use Rattle.http_header.specs.FieldValue.{IsVisibleAscii}
use Rattle.http_header.specs.Token.{is_visible_or_blank}

digit_visible : (c : ℕ) → digit_value c < 10 → is_visible_or_blank c ≡ true
digit_visible c h = grind (arith, nat_tests)

digits_visible : (bytes : List ℕ) → AllDigits 10 bytes → AllByRecursion (λ c. is_visible_or_blank c ≡ true) bytes
digits_visible [] h = tt
digits_visible (c ∷ cs) h = (digit_visible c h.0, digits_visible cs h.1)

behind_plus : (c : ℕ) (cs : List ℕ) (b : Bool) → (c == 43) ≡ b → AllDigits 10 (drop (cond b 1 0) (c ∷ cs)) → AllByRecursion (λ x. is_visible_or_blank x ≡ true) (c ∷ cs)
behind_plus c cs true e h = (grind (arith, nat_tests), digits_visible cs h)
behind_plus c cs false e h = digits_visible (c ∷ cs) h

pub numeral_visible : (bytes : List ℕ) → IsNumeral 10 (without_leading_plus bytes) → IsVisibleAscii bytes
numeral_visible [] h = All-from_recursion _ [] tt
numeral_visible (c ∷ cs) h = All-from_recursion _ (c ∷ cs) (behind_plus c cs (c == 43) refl h.1)

-- Decimal digits, as parsing reads them.
use Rattle.std.proofs.Common.{◌≡◌, ℕ, ◌<◌, ◌^◌, ◌==◌, ◌&&◌, List, [], ◌∷◌, Bool, true, false, cond, drop, length, arith, refl, sym, ap, subst, nat_lt, None, Some, ◌∙◌}
use Rattle.std.proofs.lemmas.Bool.Decides.{nat_tests}
use Rattle.std.proofs.lemmas.List.Elements.{All-from_recursion}
use Rattle.std.specs.Char.{digit_value, is_ascii_digit}
use Rattle.std.specs.List.{AllByRecursion, list_all}
use Rattle.std.specs.Str.Parse.{AllDigits, IsNumeral, digits_value, without_leading_plus}
use Rattle.http_header.specs.FieldValue.{IsVisibleAscii}
use Rattle.http_header.specs.Token.{is_visible_or_blank}
use Rattle.host_session.specs.RetryAfter.{decimal_number}

both : (a b : Bool) → (a && b) ≡ true → (a ≡ true) × (b ≡ true)
both true true e = (refl, refl)
both true false e = cc
both false b e = cc

digit_counts : (c : ℕ) → is_ascii_digit c ≡ true → digit_value c < 10
digit_counts c h = grind (arith, nat_tests)

digit_visible : (c : ℕ) → is_ascii_digit c ≡ true → is_visible_or_blank c ≡ true
digit_visible c h = grind (arith, nat_tests)

digit_no_plus : (c : ℕ) → is_ascii_digit c ≡ true → (c == 43) ≡ false
digit_no_plus c h = grind (arith, nat_tests)

digits_count : (bs : List ℕ) → list_all is_ascii_digit bs ≡ true → AllDigits 10 bs
digits_count [] h = tt
digits_count (c ∷ cs) h = let (one, more) = both _ _ h in (digit_counts c one, digits_count cs more)

visible_each : (bs : List ℕ) → list_all is_ascii_digit bs ≡ true → AllByRecursion (λ c. is_visible_or_blank c ≡ true) bs
visible_each [] h = tt
visible_each (c ∷ cs) h = let (one, more) = both _ _ h in (digit_visible c one, visible_each cs more)

-- digits alone are visible
digits_visible : (bs : List ℕ) → list_all is_ascii_digit bs ≡ true → IsVisibleAscii bs
digits_visible bs h = All-from_recursion _ bs (visible_each bs h)

-- digits begin with no plus
digits_plain : (bs : List ℕ) → list_all is_ascii_digit bs ≡ true → without_leading_plus bs ≡ bs
digits_plain [] h = refl
digits_plain (c ∷ cs) h = let (one, more) = both _ _ h in ap (λ t. drop (cond t 1 0) (c ∷ cs)) (digit_no_plus c one)

chosen : (t : Bool) (n : ℕ) → t ≡ true → (cond t (Some n) None) ≡ Some n
chosen t n h = rw h refl

-- what isn't digits alone is no number
pub no_digits : (bs : List ℕ) → list_all is_ascii_digit bs ≡ false → decimal_number bs ≡ None
unfolding decimal_number
no_digits bs h = rw h refl

-- what isn't visible is no number
pub hidden : (bs : List ℕ) → ¬ (IsVisibleAscii bs) → decimal_number bs ≡ None
hidden bs h = by (list_all is_ascii_digit bs) refl where
  by : (t : Bool) → list_all is_ascii_digit bs ≡ t → decimal_number bs ≡ None
  by true e = absurd (h (digits_visible bs e))
  by false e = no_digits bs e

-- digits that are read are their number
pub digits_read : (bs : List ℕ) (n : ℕ) → list_all is_ascii_digit bs ≡ true
    → IsNumeral 10 (without_leading_plus bs) × (digits_value 10 (without_leading_plus bs) < 2 ^ 64)
    → n ≡ digits_value 10 (without_leading_plus bs) → decimal_number bs ≡ Some n
unfolding decimal_number
digits_read bs n all is value =
    let plain = digits_plain bs all in
    let P : List ℕ → Type 0 = λ xs. IsNumeral 10 xs × (digits_value 10 xs < 2 ^ 64) in
    let fits = subst P plain is in
    let some : nat_lt 0 (length bs) ≡ true = grind (arith, nat_tests) in
    let small : nat_lt (digits_value 10 bs) (2 ^ 64) ≡ true = grind (arith, nat_tests) in
    rw (all, some, small) (ap Some (sym (value ∙ ap (digits_value 10) plain)))

-- digits that aren't read are none, or too large
pub digits_unread : (bs : List ℕ) → list_all is_ascii_digit bs ≡ true
    → ¬ (IsNumeral 10 (without_leading_plus bs) × (digits_value 10 (without_leading_plus bs) < 2 ^ 64))
    → decimal_number bs ≡ None
unfolding decimal_number
digits_unread bs all isnt = rw all (by (nat_lt 0 (length bs)) (nat_lt (digits_value 10 bs) (2 ^ 64)) refl refl) where
  by : (some small : Bool) → nat_lt 0 (length bs) ≡ some → nat_lt (digits_value 10 bs) (2 ^ 64) ≡ small
      → cond (true && nat_lt 0 (length bs) && nat_lt (digits_value 10 bs) (2 ^ 64)) (Some (digits_value 10 bs)) None ≡ None
  by true true e f =
      let P : List ℕ → Type 0 = λ xs. IsNumeral 10 xs × (digits_value 10 xs < 2 ^ 64) in
      let none : 0 < length bs = grind (arith, nat_tests) in
      let fits : digits_value 10 bs < 2 ^ 64 = grind (arith, nat_tests) in
      absurd (isnt (subst P (sym (digits_plain bs all)) ((none, digits_count bs all), fits)))
  by true false e f = rw (e, f) refl
  by false small e f = rw e refl

pub ruleset decimals = (no_digits, hidden, digits_read, digits_unread)

-- Numbers that are digits alone.
use Rattle.std.proofs.Common.{◌≡◌, ℕ, ◌+◌, ◌-◌, ◌*◌, ◌^◌, ◌<◌, ◌≤◌, ◌==◌, List, [], ◌∷◌, length, get_or, take, Bool, true, false, is_some, Some, refl, sym, subst, ap, ◌∙◌, arith, take_all}
use Rattle.std.proofs.lemmas.Bool.{lt-ltb, ne_eqb}
use Rattle.std.proofs.lemmas.List.{append-nil, length-take-le, take_more}
use Rattle.std.proofs.lemmas.Int.Digits.{digits_value_more, digits_push}
use Rattle.std.proofs.lemmas.Str.{digit_value_digit}
use Rattle.std.proofs.lemmas.Str.Parse.{IsNumeralModel, digits_value_short, digit_from_value}
use Rattle.std.proofs.lemmas.Float.Parse.{scan_numeral-text_of}
use Rattle.std.specs.Str.Parse.{AllDigits, IsNumeral, digits_value}
use Rattle.fast_float.specs.Text.{Parts, scan}
use Rattle.serde_json.specs.Data.{unsigned}
use Rattle.serde_json.specs.Find.{as_u64}
use Rattle.serde_json.specs.Read.{number_of, number_from}
use Rattle.json_forms.specs.View.{number_view}

abbrev digits_alone : List ℕ → Parts
digits_alone s = record { whole = s; point = false; fraction = []; exponent_negative = false; exponent = []; len = length s }

scanned : (s : List ℕ) → AllDigits 10 s → scan s ≡ digits_alone s
scanned s h =
    ap scan (sym (append-nil s))
    ∙ scan_numeral-text_of (digits_alone s) (record { whole_digits = h; fraction_digits = tt; exponent_digits = tt; no_point = λ _. refl; no_exponent = λ _. refl; len_is = ap length (sym (append-nil s)) })

from_digits : (s : List ℕ) → IsNumeral 10 s → digits_value 10 s < 2 ^ 64 → number_from false (scan s) ≡ Some (unsigned (digits_value 10 s))
from_digits s h f = rw (scanned s h.1, append-nil s, lt-ltb 0 (length s) h.0, lt-ltb (digits_value 10 s) (2 ^ 64) f) refl

no_minus : (s : List ℕ) → IsNumeral 10 s → (get_or s 0 0 == 45) ≡ false
no_minus [] h = absurd (omega (arith, h.0))
no_minus (d ∷ ds) h = ne_eqb d 45 (λ e. omega (arith, digit_from_value d h.1.0))

of_digits : (s : List ℕ) → IsNumeral 10 s → digits_value 10 s < 2 ^ 64 → number_of s ≡ Some (unsigned (digits_value 10 s))
unfolding number_of
of_digits s h f = rw (no_minus s h) (from_digits s h f)

model : IsNumeralModel (AllDigits 10) (digits_value 10)
model = record { to = λ ds h. h; from = λ ds h. h; same = λ ds h. refl }

pub nonempty : (s : List ℕ) (b : Bool) → b ≡ (length s == 0) → b ≡ false → 0 < length s
nonempty [] b e f = absurd (cc)
nonempty (d ∷ ds) b e f = omega arith

-- fewer than twenty digits fit
pub short : (s : List ℕ) (i k : ℕ) → i ≤ k → i ≤ length s → AllDigits 10 (take i s) → digits_value 10 (take i s) < 10 ^ k
short s i k a b h = digits_value_short model (take i s) k h (omega (arith, a, length-take-le i s b))

-- a digit more
pub more_digits : (s : List ℕ) (i : ℕ) → i < length s → 48 ≤ get_or s i 0 → get_or s i 0 ≤ 57 → AllDigits 10 (take i s) → AllDigits 10 (take (i + 1) s)
more_digits s i h lo hi d =
    rw (take_more s i 0 h) (digits_push 10 (take i s) (get_or s i 0) d (omega (arith, digit_value_digit (get_or s i 0) (lo, hi))))

pub more_value : (s : List ℕ) (i n : ℕ) → i < length s → 48 ≤ get_or s i 0 → get_or s i 0 ≤ 57 → n ≡ digits_value 10 (take i s) →
    n * 10 + (get_or s i 0 - 48) ≡ digits_value 10 (take (i + 1) s)
more_value s i n h lo hi e = omega (arith, e, digits_value_more 10 s i h, digit_value_digit (get_or s i 0) (lo, hi))

-- all of them
pub counted : (s : List ℕ) (i n : ℕ) → 0 < length s → length s ≤ 19 → length s ≤ i → AllDigits 10 (take i s) → n ≡ digits_value 10 (take i s) → number_of s ≡ Some (unsigned n)
counted s i n a b e h v =
    let whole : take i s ≡ s = take_all i s e in
    let digits : AllDigits 10 s = subst (AllDigits 10) whole h in
    let fits : digits_value 10 s < 10 ^ 19 = digits_value_short model s 19 digits b in
    of_digits s (a, digits) (omega (arith, fits)) ∙ ap (λ m. Some (unsigned m)) (ap (digits_value 10) (sym whole) ∙ sym v)

pub plain_value : (s : List ℕ) (n : ℕ) → number_of s ≡ Some (unsigned n) → true ≡ is_some (number_of s)
plain_value s n h = rw h refl

pub plain_unsigned : (s : List ℕ) (n : ℕ) → number_of s ≡ Some (unsigned n) → Some n ≡ as_u64 (number_view s)
unfolding number_view
plain_unsigned s n h = rw h refl

pub ruleset plain_numbers = (plain_value, plain_unsigned)

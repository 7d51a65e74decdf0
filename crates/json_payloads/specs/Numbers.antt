-- Integers.
use Rattle.std.specs.Prelude.{◌≡◌, ℕ, ◌^◌, ℤ, pos, negsuc, Bool, true, ◌&&◌, nat_lt, Option, Some, None}
use Rattle.std.specs.Prelude.{option_and_then, if◌then◌else◌}
use Rattle.std.proofs.Common.{refl, ap, ◌∙◌}
use Rattle.std.proofs.Math.Nat.{le_refl}
use Rattle.serde_json.specs.Data.{Data, number, unsigned}
use Rattle.serde_json.specs.Find.{as_number, as_u64, as_i64, of_integer}
use Rattle.json_payloads.specs.Reading.{◌>>=◌}
use Rattle.json_payloads.specs.Forms.{Form, both_fit}

-- the whole number without a sign that the data is
abbrev pub unsigned_at : Data → Option ℕ
unsigned_at d = option_and_then as_u64 (as_number d)

-- a whole number
abbrev pub whole_number : Form ℕ
whole_number = record {
  prints = λ n. number (unsigned n);
  reads = unsigned_at;
  fits = λ n. true;
  levels = 0;
  read_back = λ n fit. refl;
  not_null = λ n. refl;
  shallow = λ n. le_refl 0;
}

-- the number, where it is below the bound
abbrev pub under : ℕ → ℕ → Option ℕ
under bound n = if nat_lt n bound then Some n else None

-- a whole number below a bound
abbrev pub number_under : ℕ → Form ℕ
number_under bound = record {
  prints = λ n. number (unsigned n);
  reads = λ d. unsigned_at d >>= under bound;
  fits = λ n. nat_lt n bound;
  levels = 0;
  read_back = λ n fit. ap (λ (b : Bool). if b then Some n else None) fit;
  not_null = λ n. refl;
  shallow = λ n. le_refl 0;
}

-- ---- with a sign

-- the whole number of 64 bits with a sign that the data is
abbrev pub signed_at : Data → Option ℤ
signed_at d = option_and_then as_i64 (as_number d)

-- it is from -bound on, and below bound
abbrev pub is_within : ℕ → ℤ → Bool
is_within bound (pos n) = nat_lt n bound
is_within bound (negsuc n) = nat_lt n bound

-- the number, where it is within the bound
abbrev pub within : ℕ → ℤ → Option ℤ
within bound z = if is_within bound z then Some z else None

-- a number of 64 bits is read back
pub signed_back : (z : ℤ) → is_within (2 ^ 63) z ≡ true → as_i64 (of_integer z) ≡ Some z
signed_back (pos n) fit = ap (λ (b : Bool). if b then Some (pos n) else None) fit
signed_back (negsuc n) fit = refl

-- a whole number with a sign, of 64 bits
abbrev pub integer : Form ℤ
integer = record {
  prints = λ z. number (of_integer z);
  reads = signed_at;
  fits = is_within (2 ^ 63);
  levels = 0;
  read_back = signed_back;
  not_null = λ z. refl;
  shallow = λ z. le_refl 0;
}

-- a number within the bound is read back
pub within_back : (bound : ℕ) (z : ℤ) → (is_within (2 ^ 63) z && is_within bound z) ≡ true →
    (as_i64 (of_integer z) >>= within bound) ≡ Some z
within_back bound z fit =
    let each = both_fit (is_within (2 ^ 63) z) (is_within bound z) fit in
    ap (λ (o : Option ℤ). o >>= within bound) (signed_back z each.0)
    ∙ ap (λ (b : Bool). if b then Some z else None) each.1

-- a whole number with a sign, within a bound
abbrev pub integer_within : ℕ → Form ℤ
integer_within bound = record {
  prints = λ z. number (of_integer z);
  reads = λ d. signed_at d >>= within bound;
  fits = λ z. is_within (2 ^ 63) z && is_within bound z;
  levels = 0;
  read_back = within_back bound;
  not_null = λ z. refl;
  shallow = λ z. le_refl 0;
}

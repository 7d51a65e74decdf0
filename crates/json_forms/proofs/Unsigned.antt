-- The whole number without a sign that a text is.
use Rattle.std.proofs.Common.{◌≡◌, ℕ, List, Bool, true, false, cond, unwrap_or, Option, Some, None, option_and_then, Float, refl}
use Rattle.std.specs.Float.{binary64, float_is_finite}
use Rattle.fast_float.specs.Text.{Parts, scan, nearest}
use Rattle.serde_json.specs.Data.{Num, negative, float}
use Rattle.serde_json.specs.Find.{as_u64}
use Rattle.serde_json.specs.Read.{number_of, number_from, float_of}
use Rattle.json_forms.specs.View.{number_view}

-- a float that stands in for a number without a value is no whole number
value_or_float : (o : Option Num) (x : Float) → option_and_then as_u64 o ≡ as_u64 (unwrap_or o (float x))
value_or_float None x = refl
value_or_float (Some n) x = refl

pub unsigned_view : (s : List ℕ) → option_and_then as_u64 (number_of s) ≡ as_u64 (number_view s)
unfolding number_view
unsigned_view s = value_or_float (number_of s) (nearest binary64 false (scan s))

no_float_is_whole : (b : Bool) (x : Float) → option_and_then as_u64 (cond b (Some (float x)) None) ≡ None
no_float_is_whole true x = refl
no_float_is_whole false x = refl

none_below_zero : (b : Bool) (n : Num) (o : Option Num) → as_u64 n ≡ None → option_and_then as_u64 o ≡ None → option_and_then as_u64 (cond b (Some n) o) ≡ None
none_below_zero true n o h k = h
none_below_zero false n o h k = k

pub negative_is_not_unsigned : (p : Parts) → option_and_then as_u64 (number_from true p) ≡ None
negative_is_not_unsigned p = none_below_zero _ (negative _) (float_of true p) refl (no_float_is_whole (float_is_finite (nearest binary64 true p)) (nearest binary64 true p))

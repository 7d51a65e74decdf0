-- Floats that are finite.
use Rattle.std.specs.Prelude.{Bool, Float, Option, Some, None, option_map, if◌then◌else◌}
use Rattle.std.specs.Float.{float_is_finite}
use Rattle.std.proofs.Common.{refl, ap}
use Rattle.std.proofs.Math.Nat.{le_refl}
use Rattle.serde_json.specs.Data.{Data, number, float}
use Rattle.serde_json.specs.Find.{as_number, to_float}
use Rattle.json_payloads.specs.Reading.{◌>>=◌}
use Rattle.json_payloads.specs.Forms.{Form}

-- the float, where it is finite
abbrev pub finite : Float → Option Float
finite x = if float_is_finite x then Some x else None

-- the float that is nearest to the number that the data is
abbrev pub double_at : Data → Option Float
double_at d = option_map to_float (as_number d) >>= finite

-- a finite float of 64 bits
abbrev pub double : Form Float
double = record {
  prints = λ x. number (float x);
  reads = double_at;
  fits = float_is_finite;
  levels = 0;
  read_back = λ x fit. ap (λ (b : Bool). if b then Some x else None) fit;
  not_null = λ x. refl;
  shallow = λ x. le_refl 0;
}

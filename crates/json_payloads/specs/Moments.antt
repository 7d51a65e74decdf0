-- Moments as texts of RFC 3339.
use Rattle.std.specs.Prelude.{◌≡◌, ℕ, ℤ, List, Bool, Option, Some, None, is_some, if◌then◌else◌}
use Rattle.std.proofs.Common.{refl, ap}
use Rattle.std.proofs.Math.Nat.{le_refl}
use Rattle.jiff_fmt.specs.Temporal.{parse_timestamp}
use Rattle.serde_json.specs.Data.{string}
use Rattle.serde_json.specs.Find.{as_str}
use Rattle.json_payloads.specs.Base64.{ok_of}
use Rattle.json_payloads.specs.Reading.{◌>>=◌}
use Rattle.json_payloads.specs.Forms.{Form}

-- the moment that a text spells, in nanoseconds since the epoch began
unfoldable pub moment_in : List ℕ → Option ℤ
moment_in s = ok_of (parse_timestamp s)

-- the text, where it spells a moment
abbrev pub spelled : List ℕ → Option (List ℕ)
spelled s = if is_some (moment_in s) then Some s else None

-- a moment stands as the text that spells it
abbrev pub date_time : Form (List ℕ)
date_time = record {
  prints = string;
  reads = λ d. as_str d >>= spelled;
  fits = λ s. is_some (moment_in s);
  levels = 0;
  read_back = λ s fit. ap (λ (b : Bool). if b then Some s else None) fit;
  not_null = λ s. refl;
  shallow = λ s. le_refl 0;
}

-- Bytes, as a text of Base64.
use Rattle.std.specs.Prelude.{◌≡◌, ◌≤◌, ℕ, List, Bool, true, false, Option, Some, None, Result, Ok, Err, bytes_eq}
use Rattle.std.proofs.Common.{refl, sym, ap, true≢false}
use Rattle.std.proofs.Math.Nat.{le_refl}
use Rattle.std.proofs.lemmas.Slice.Eq.{bytes_eq-Decides}
use Rattle.base64.specs.GeneralPurpose.{encode_of, decode_of}
use Rattle.base64.specs.Engines.{standard}
use Rattle.serde_json.specs.Data.{Data, string, depth}
use Rattle.serde_json.specs.Find.{as_str}
use Rattle.json_payloads.specs.Reading.{◌>>=◌}
use Rattle.json_payloads.specs.Forms.{Form, is_null}

-- what was answered, less the error
abbrev pub ok_of : {X E : Type 0} → Result X E → Option X
ok_of (Ok x) = Some x
ok_of (Err e) = None

-- the bytes that a text of Base64 with padding is
abbrev pub bytes_in : List ℕ → Option (List ℕ)
bytes_in s = ok_of (decode_of standard s)

-- these bytes were found
abbrev pub is_same : List ℕ → Option (List ℕ) → Bool
is_same bytes None = false
is_same bytes (Some found) = bytes_eq found bytes

-- what was found is these bytes, where they are the same
pub bytes_back : (bytes : List ℕ) (o : Option (List ℕ)) → is_same bytes o ≡ true → o ≡ Some bytes
bytes_back bytes None fit = absurd (true≢false (sym fit))
bytes_back bytes (Some found) fit = ap (λ (b : List ℕ). Some b) ((bytes_eq-Decides found bytes).0 fit)

-- the bytes as a text of Base64 with padding
unfoldable pub base64_data : List ℕ → Data
base64_data bytes = string (encode_of standard bytes)

-- the bytes that the data is a text of
unfoldable pub base64_at : Data → Option (List ℕ)
base64_at d = as_str d >>= bytes_in

-- the text of the bytes is read as them
unfoldable pub base64_fits : List ℕ → Bool
base64_fits bytes = is_same bytes (bytes_in (encode_of standard bytes))

-- the text of bytes that fit is read as them
pub base64_back : (bytes : List ℕ) → base64_fits bytes ≡ true → base64_at (base64_data bytes) ≡ Some bytes
unfolding base64_data base64_at base64_fits
base64_back bytes fit = bytes_back bytes (bytes_in (encode_of standard bytes)) fit

-- a text isn't null
pub base64_not_null : (bytes : List ℕ) → is_null (base64_data bytes) ≡ false
unfolding base64_data
base64_not_null bytes = refl

-- a text doesn't nest
pub base64_shallow : (bytes : List ℕ) → depth (base64_data bytes) ≤ 0
unfolding base64_data
base64_shallow bytes = le_refl 0

-- bytes. Those of Rust's type fit.
abbrev pub base64 : Form (List ℕ)
base64 = record {
  prints = base64_data;
  reads = base64_at;
  fits = base64_fits;
  levels = 0;
  read_back = base64_back;
  not_null = base64_not_null;
  shallow = base64_shallow;
}

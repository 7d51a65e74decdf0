-- What stands in JSON for numbers, texts, bytes, lists and what may be absent.
use Rattle.std.specs.Prelude.{ℕ, List, Bool, ◌&&◌, Option, Some, None, map, codes, nat_le, ◌==◌, ◌||◌, if◌then◌else◌}
use Rattle.std.specs.List.{list_all}
use Rattle.hex.specs.Hex.{encode_lower}
use Rattle.serde_json.specs.Data.{Data, null, number, string, array, object, unsigned, no_members, member}
use Rattle.serde_json.specs.View.{items_of}

-- the array of these items
abbrev pub row : List Data → Data
row ds = array (items_of ds)

-- a number that isn't negative
abbrev pub num : ℕ → Data
num n = number (unsigned n)

-- null stands for what is absent
abbrev pub null_or : {X : Type 0} → (X → Data) → Option X → Data
null_or data_of None = null
null_or data_of (Some x) = data_of x

-- an array of strings
abbrev pub texts : List (List ℕ) → Data
texts ts = row (map string ts)

-- a byte of visible ASCII, a space, a tab or an end of a line
unfoldable pub is_shown : ℕ → Bool
is_shown b = (nat_le 32 b && nat_le b 126) || (b == 9) || (b == 10) || (b == 13)

-- a text where each byte can be shown, else the bytes in hex
unfoldable pub blob_data : List ℕ → Data
blob_data bytes = if list_all is_shown bytes then string bytes
    else object (member (codes "hex") (string (encode_lower bytes)) no_members)

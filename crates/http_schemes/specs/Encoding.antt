-- Bytes as a query spells them.
use Rattle.std.specs.Prelude.{ℕ, Bool, ◌||◌, ◌==◌, List, [], ◌∷◌, flat_map, if◌then◌else◌}
use Rattle.std.specs.Char.{is_ascii_alphanumeric}
use Rattle.percent_encoding.specs.Percent.{percent_encode_byte}

-- a letter or digit of ASCII, `-`, `.`, `_` or `~`
abbrev pub is_unreserved : ℕ → Bool
is_unreserved b = is_ascii_alphanumeric b || (b == 45) || (b == 46) || (b == 95) || (b == 126)

-- the byte itself, or `%` and its two upper-case hexadecimal digits
abbrev pub encoded_byte : ℕ → List ℕ
encoded_byte b = if is_unreserved b then b ∷ [] else percent_encode_byte b

-- each byte so, in order
abbrev pub encoded : List ℕ → List ℕ
encoded bytes = flat_map encoded_byte bytes

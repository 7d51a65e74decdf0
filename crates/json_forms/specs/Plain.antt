-- Numbers and texts.
use Rattle.std.specs.Prelude.{ℕ, Option, Some, None, nat_lt, if◌then◌else◌, option_and_then}
use Rattle.serde_json.specs.Data.{Data}
use Rattle.serde_json.specs.Find.{as_number, as_u64, as_array}
use Rattle.json_forms.specs.Tuples.{two_of, three_of, four_of, five_of, six_of, seven_of}

-- a whole number that isn't negative
abbrev pub number_at : Data → Option ℕ
number_at d = option_and_then as_u64 (as_number d)

-- a number below a bound
abbrev pub below : ℕ → Option ℕ → Option ℕ
below bound None = None
below bound (Some n) = if nat_lt n bound then Some n else None

-- such a number below a bound
abbrev pub number_below : ℕ → Data → Option ℕ
number_below bound d = below bound (number_at d)

-- an array of two items
abbrev pub pair_at : Data → Option (Data × Data)
pair_at d = option_and_then two_of (as_array d)

-- an array of three items
abbrev pub triple_at : Data → Option (Data × Data × Data)
triple_at d = option_and_then three_of (as_array d)

-- an array of four items
abbrev pub quadruple_at : Data → Option (Data × Data × Data × Data)
quadruple_at d = option_and_then four_of (as_array d)

-- an array of five items
abbrev pub quintuple_at : Data → Option (Data × Data × Data × Data × Data)
quintuple_at d = option_and_then five_of (as_array d)

-- an array of six items
abbrev pub sextuple_at : Data → Option (Data × Data × Data × Data × Data × Data)
sextuple_at d = option_and_then six_of (as_array d)

-- an array of seven items
abbrev pub septuple_at : Data → Option (Data × Data × Data × Data × Data × Data × Data)
septuple_at d = option_and_then seven_of (as_array d)

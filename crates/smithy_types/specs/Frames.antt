-- What the answers of a body's polls are.
use Rattle.std.specs.Prelude.{ℕ, Bool, true, false, List, length, sum_by}
use Rattle.smithy_types.specs.declared.polled.Polled.{Polled}
use Rattle.smithy_types.specs.declared.polled.Polled.TheVariants.{Data, End, Failed}

-- whether a body is over with this answer
abbrev pub ends : Polled → Bool
ends End = true
ends (Failed fault) = true
ends _ = false

-- how many bytes of data an answer has
abbrev pub data_len : Polled → ℕ
data_len (Data bytes) = length bytes
data_len _ = 0

-- how many bytes of data some answers have together
abbrev pub data_bytes : List Polled → ℕ
data_bytes answers = sum_by data_len answers

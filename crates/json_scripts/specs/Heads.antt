-- Which heads are within the limits of a script.
use Rattle.std.specs.Prelude.{ℕ, ◌+◌, List, Bool, ◌&&◌, length, sum_by, nat_le}
use Rattle.http_header.specs.FieldValue.{FieldValue}
use Rattle.http_header.specs.HeaderMap.{pairs, value_count}
use Rattle.smithy_types.specs.HeaderList.{HeaderList}

-- the bytes of a header's name and value
abbrev pub header_size : List ℕ × FieldValue → ℕ
header_size h = length h.0 + length (h.1).bytes

-- at most 32 headers, with at most 8 KiB together
unfoldable pub head_fits : HeaderList → Bool
head_fits hs = nat_le (value_count hs) 32 && nat_le (sum_by header_size (pairs hs)) 8192

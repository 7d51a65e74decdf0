-- The header list behind a handle that may not have its map yet.
use Rattle.std.specs.Prelude.{Option, None, Some, []}
use Rattle.std.specs.declared.sync.Arc.{Arc}
use Rattle.std.specs.Global.{Global}
use Rattle.http_header.specs.HeaderMap.{Entries}
use Rattle.http_header.specs.FieldValue.{FieldValue}

-- names in the order of their first value, each with its values
abbrev pub HeaderList : Type 0
HeaderList = Entries FieldValue

-- the header list of a request or a response: it is empty until a header makes the map
abbrev pub headers_of : Option (Arc HeaderList Global) → HeaderList
headers_of None = []
headers_of (Some shared) = shared.value

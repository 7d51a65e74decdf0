-- The data that printed JSON stands for.
use Rattle.std.specs.Prelude.{List, map}
use Rattle.serde_json.specs.Data.{Data}
use Rattle.serde_json.specs.View.{view}
use Rattle.json_forms.specs.declared.printing.Json.{Json}
use Rattle.json_forms.specs.declared.printing.Row.{Row}

-- the data that this JSON stands for
abbrev pub data_of : Json → Data
data_of j = view j.value

-- the items so far
abbrev pub items_in : Row → List Data
items_in r = map view r.values.items

use Rattle.std.proofs.Common.{◌≡◌, ◌++◌, map}
use Rattle.http_header.specs.HeaderMap.{pairs}
use Rattle.json_forms.specs.JsonData.{items_in}
use Rattle.json_values.specs.Values.{header_data}
use Rattle.json_values.proofs.http.print_header_map.Given as goal

abbrev pub invariant-loop-name : goal.invariant-loop-name
invariant-loop-name l = items_in l.row ++ map header_data l.name-iterator ≡ map header_data (pairs l.map)

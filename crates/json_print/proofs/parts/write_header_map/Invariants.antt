use Rattle.std.proofs.Common.{map}
use Rattle.http_header.specs.HeaderMap.{pairs}
use Rattle.json_values.specs.Values.{header_data}
use Rattle.json_print.proofs.RowText.{IsUnderWay}
use Rattle.json_print.proofs.parts.write_header_map.Given as goal

abbrev pub invariant-loop-name : goal.invariant-loop-name
invariant-loop-name l = IsUnderWay (map header_data l.name-iterator) (map header_data (pairs l.map)) l.is_later l.fn.out.items l.out.items

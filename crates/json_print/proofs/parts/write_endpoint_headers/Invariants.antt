use Rattle.std.proofs.Common.{map, drop}
use Rattle.json_values.specs.Values.{endpoint_header_data}
use Rattle.json_print.proofs.RowText.{IsUnderWay}
use Rattle.json_print.proofs.parts.write_endpoint_headers.Given as goal

abbrev pub invariant-loop-header : goal.invariant-loop-header
invariant-loop-header l =
    IsUnderWay (map endpoint_header_data (drop l.header-index l.headers)) (map endpoint_header_data l.headers) l.is_later l.fn.out.items l.out.items

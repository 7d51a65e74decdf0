use Rattle.std.proofs.Common.{Some, sym, ap, ◌∙◌, arith}
use Rattle.json_values.proofs.HeaderReading.{no_headers}
use Rattle.json_values.proofs.http.header_list.Goals as goal

pub returns-in-empty : goal.returns-in-empty
returns-in-empty c = no_headers c.args.items.now (omega (arith, c.in-empty.len_below)) ∙ ap Some (sym c.new.ensures)

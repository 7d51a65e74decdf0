use Rattle.std.proofs.Common.{arith}
use Rattle.json_print.proofs.Depths.{layer_nests}
use Rattle.json_print.proofs.RowText.{written_as}
use Rattle.json_print.proofs.answer.write_layer.Goals as goal

pub returns : goal.returns
returns c = written_as 4 c.in_ok-json.ensures (layer_nests c.args.layer.now) (omega arith) c.in_ok-write_json.ensures

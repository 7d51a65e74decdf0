use Rattle.std.proofs.Common.{arith}
use Rattle.json_print.proofs.Depths.{hook_answer_nests}
use Rattle.json_print.proofs.RowText.{written_as}
use Rattle.json_print.proofs.answer.write_hook_answer.Goals as goal

pub returns : goal.returns
returns c = written_as 6 c.in_ok-json.ensures (hook_answer_nests c.args.answer.now) (omega arith) c.in_ok-write_json.ensures

use Rattle.std.specs.Prelude.{codes}
use Rattle.json_forms.proofs.Rows.{carried_row, depth_row, texts_row, sample}
use Rattle.json_forms.proofs.laws.rows_can_be_printed.Goals as goal

pub returns : goal.returns
returns c = record { carried = carried_row; nests = depth_row; texts = texts_row; sample = λ n m b s. sample n m b s (codes "hex") }

use Rattle.serde_json.proofs.Nesting.{depth-read}
use Rattle.json_forms.proofs.ReadBack.{read-compact_text}
use Rattle.json_forms.proofs.Stored.{carried_when_read}
use Rattle.json_forms.proofs.laws.read_data_can_be_printed.Goals as goal

pub returns : goal.returns
returns c = record { carried = carried_when_read; nests = depth-read; again = λ text d e f. read-compact_text d (carried_when_read text d e f) (depth-read text d e) }

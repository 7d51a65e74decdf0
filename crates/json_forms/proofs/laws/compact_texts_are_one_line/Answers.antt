use Rattle.json_forms.proofs.Visible.{visible}
use Rattle.json_forms.proofs.laws.compact_texts_are_one_line.Goals as goal

pub returns : goal.returns
returns c = visible

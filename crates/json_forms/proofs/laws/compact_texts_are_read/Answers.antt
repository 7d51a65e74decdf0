use Rattle.json_forms.proofs.ReadBack.{read-compact_text}
use Rattle.json_forms.proofs.laws.compact_texts_are_read.Goals as goal

pub returns : goal.returns
returns c = read-compact_text

use Rattle.json_forms.proofs.OneByOne.{joined_lines}
use Rattle.json_forms.proofs.laws.texts_of_lines_are_joined.Goals as goal

pub returns : goal.returns
returns c = joined_lines

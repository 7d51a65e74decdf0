use Rattle.json_forms.proofs.OneByOne.{parts_of_lines, lines_of_lines, lines_from_parts}
use Rattle.json_forms.proofs.laws.texts_of_lines_are_cut.Goals as goal

pub returns : goal.returns
returns c = record { parts = parts_of_lines; back = lines_from_parts; lines = lines_of_lines }

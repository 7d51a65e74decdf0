use Rattle.json_forms.proofs.OneByOne.{read_lines-lines_text, same_lines}
use Rattle.json_forms.proofs.laws.texts_of_lines_are_read.Goals as goal

pub returns : goal.returns
returns c = record { same = same_lines; read = read_lines-lines_text }

use Rattle.json_forms.proofs.Characters.{characters, lines_characters}
use Rattle.json_forms.proofs.laws.compact_texts_are_of_characters.Goals as goal

pub returns : goal.returns
returns c = record { one = characters; all = lines_characters }

use Rattle.json_values.proofs.PrintedNames.{kind_read}
use Rattle.json_values.proofs.laws.printed_kinds_are_read.Goals as goal

pub returns : goal.returns
returns c = kind_read

use Rattle.std.proofs.Common.{map, drop}
use Rattle.serde_json.specs.Data.{string}
use Rattle.json_print.proofs.RowText.{IsUnderWay}
use Rattle.json_print.proofs.forms.write_texts.Given as goal

abbrev pub invariant-loop-text : goal.invariant-loop-text
invariant-loop-text l = IsUnderWay (map string (drop l.text-index l.items)) (map string l.items) l.is_later l.fn.out.items l.out.items

use Rattle.json_print.proofs.RowText.{json_written}
use Rattle.json_print.proofs.forms.write_json.Goals as goal

pub returns : goal.returns
returns c = json_written c.args.json.now _ _ c.in_ok-write.ensures.text c.in_ok-write.ensures.read_back c.in_ok-write.ensures.characters

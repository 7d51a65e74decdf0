use Rattle.json_print.proofs.RowText.{text_written}
use Rattle.json_print.proofs.forms.write_text.Goals as goal

pub returns : goal.returns
returns c = text_written c.args.text.now c.utf8.text (rw c.as_bytes.ensures.value at c.in_ok-write_quoted.ensures)

use Rattle.json_forms.proofs.Shown.{shown_text}
use Rattle.json_print.proofs.RowText.{text_written}
use Rattle.json_print.proofs.forms.write_shown.Goals as goal

pub returns : goal.returns
returns c = text_written c.args.bytes.now (shown_text c.args.bytes.now c.requires) c.in_ok-write_quoted.ensures

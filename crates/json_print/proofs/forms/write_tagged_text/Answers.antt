use Rattle.json_print.proofs.RowText.{begun_tagged, begun_end}
use Rattle.json_print.proofs.forms.write_tagged_text.Goals as goal

pub returns : goal.returns
returns c = begun_end (begun_tagged c.in_ok-begin_tagged.ensures (rw c.as_str.ensures at c.in_ok-write_text.ensures)) c.in_ok-push.ensures.items

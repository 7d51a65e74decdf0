use Rattle.json_print.proofs.RowText.{begun_tagged, begun_end}
use Rattle.json_print.proofs.forms.write_tagged_number.Goals as goal

pub returns : goal.returns
returns c = begun_end (begun_tagged c.in_ok-begin_tagged.ensures c.in_ok-write_number.ensures) c.in_ok-push.ensures.items

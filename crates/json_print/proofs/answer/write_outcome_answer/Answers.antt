use Rattle.json_print.proofs.RowText.{begun_end, begun_tagged}
use Rattle.json_print.proofs.answer.write_outcome_answer.Goals as goal

pub returns : goal.returns
returns c =
    begun_end (begun_tagged c.in_ok-begin_tagged.ensures c.in_ok-write_outcome.ensures) c.in_ok-push.ensures.items

use Rattle.json_values.specs.Values.{decided_data}
use Rattle.json_print.proofs.RowText.{begun_end, begun_more, begun_tagged}
use Rattle.json_print.proofs.answer.write_decided.Goals as goal

pub returns : goal.returns
unfolding decided_data
returns c =
    rw c.in-Some.is (begun_end (begun_more (begun_tagged c.in_ok-begin_tagged.ensures c.in_ok-write_choice.ensures) c.in_ok-push.ensures.items (rw c.get.ensures at c.in_ok-write_decide_note.ensures)) c.in_ok-push-2.ensures.items)

use Rattle.json_values.specs.Values.{note_data}
use Rattle.json_print.proofs.RowText.{begun_end, begun_first, begun_more}
use Rattle.json_print.proofs.answer.write_decide_note.Goals as goal

pub returns : goal.returns
unfolding note_data
returns c =
    begun_end (begun_more (begun_more (begun_more (begun_more (begun_first c.in_ok-push.ensures.items c.in_ok-write_action.ensures) c.in_ok-push-2.ensures.items c.in_ok-write_optional_number.ensures) c.in_ok-push-3.ensures.items c.in_ok-write_number.ensures) c.in_ok-push-4.ensures.items c.in_ok-write_reason.ensures) c.in_ok-push-5.ensures.items c.in_ok-write_optional_sums.ensures) c.in_ok-push-6.ensures.items

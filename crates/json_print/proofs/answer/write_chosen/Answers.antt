use Rattle.json_values.specs.Values.{chosen_data}
use Rattle.json_print.proofs.RowText.{begun_end, begun_more, begun_tagged}
use Rattle.json_print.proofs.answer.write_chosen.Goals as goal

pub returns : goal.returns
unfolding chosen_data
returns c =
    begun_end (begun_more (begun_more (begun_more (begun_more (begun_tagged c.in_ok-begin_tagged.ensures (rw c.as_str.ensures at c.in_ok-write_text.ensures)) c.in_ok-push.ensures.items (rw c.get.ensures at c.in_ok-write_identity.ensures)) c.in_ok-push-2.ensures.items c.in_ok-write_optional_endpoint.ensures) c.in_ok-push-3.ensures.items c.in_ok-write_layer.ensures) c.in_ok-push-4.ensures.items c.in_ok-write_optional_choose_note.ensures) c.in_ok-push-5.ensures.items

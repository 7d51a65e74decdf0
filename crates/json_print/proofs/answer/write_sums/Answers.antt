use Rattle.json_values.specs.Values.{sums_data}
use Rattle.json_print.proofs.RowText.{begun_end, begun_first, begun_more}
use Rattle.json_print.proofs.answer.write_sums.Goals as goal

pub returns : goal.returns
unfolding sums_data
returns c =
    begun_end (begun_more (begun_more (begun_more (begun_more (begun_first c.in_ok-push.ensures.items c.in_ok-write_number.ensures) c.in_ok-push-2.ensures.items c.in_ok-write_number-2.ensures) c.in_ok-push-3.ensures.items c.in_ok-write_number-3.ensures) c.in_ok-push-4.ensures.items c.in_ok-write_number-4.ensures) c.in_ok-push-5.ensures.items c.in_ok-write_number-5.ensures) c.in_ok-push-6.ensures.items

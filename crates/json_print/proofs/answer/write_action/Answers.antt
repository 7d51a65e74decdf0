use Rattle.json_values.specs.Values.{action_data}
use Rattle.json_print.proofs.RowText.{begun_end, begun_more, begun_tagged}
use Rattle.json_print.proofs.answer.write_action.Goals as goal

pub returns-in_ok-push-in-RetryIndicated-2 : goal.returns-in_ok-push-in-RetryIndicated-2
unfolding action_data
returns-in_ok-push-in-RetryIndicated-2 c =
    rw c.in-RetryIndicated.is (begun_end (begun_more (begun_tagged c.in_ok-begin_tagged-in-RetryIndicated.ensures c.in_ok-write_error_kind-in-RetryIndicated.ensures) c.in_ok-push-in-RetryIndicated.ensures.items
    c.in_ok-write_optional_number-in-RetryIndicated.ensures) c.in_ok-push-in-RetryIndicated-2.ensures.items)

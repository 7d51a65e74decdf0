use Rattle.json_values.specs.Values.{connector_data}
use Rattle.json_print.proofs.RowText.{begun_end, begun_tagged}
use Rattle.json_print.proofs.parts.write_connector_kind.Goals as goal

pub returns-in_ok-push-in-Other : goal.returns-in_ok-push-in-Other
unfolding connector_data
returns-in_ok-push-in-Other c =
    rw c.in-Other.is (begun_end (begun_tagged c.in_ok-begin_tagged-in-Other.ensures c.in_ok-write_optional_error_kind-in-Other.ensures) c.in_ok-push-in-Other.ensures.items)

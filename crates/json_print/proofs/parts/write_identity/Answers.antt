use Rattle.json_values.specs.Values.{identity_data}
use Rattle.json_print.proofs.RowText.{begun_end, begun_first, begun_more}
use Rattle.json_print.proofs.parts.write_identity.Goals as goal

pub returns : goal.returns
unfolding identity_data
returns c =
    begun_end (begun_more (begun_first c.in_ok-push.ensures.items c.in_ok-write_blob.ensures) c.in_ok-push-2.ensures.items c.in_ok-write_optional_number.ensures) c.in_ok-push-3.ensures.items

use Rattle.std.proofs.Common.{ap, ◌∙◌}
use Rattle.json_payloads.specs.Moments.{moment_in}
use Rattle.json_payloads.proofs.MomentLemmas.{printed_in_utc}
use Rattle.json_payloads.proofs.times.DateTime.in_utc.Goals as goal

pub invariant_of-result : goal.invariant_of-result
invariant_of-result c = ap moment_in (c.in_ok-from_str.ensures ∙ c.as_str.ensures.value) ∙ printed_in_utc c.new.result c.args.moment _ c.new.ensures c.timestamp_text-text.ensures

pub returns : goal.returns
returns c = ap moment_in (c.in_ok-from_str.ensures ∙ c.as_str.ensures.value) ∙ printed_in_utc c.new.result c.args.moment _ c.new.ensures c.timestamp_text-text.ensures

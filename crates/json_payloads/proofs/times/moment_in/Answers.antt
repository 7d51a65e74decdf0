use Rattle.std.proofs.Common.{ap, ◌∙◌}
use Rattle.json_payloads.specs.Moments.{moment_in}
use Rattle.json_payloads.proofs.MomentLemmas.{read_moment, read_none}
use Rattle.json_payloads.proofs.times.moment_in.Goals as goal

pub returns-in-Ok : goal.returns-in-Ok
returns-in-Ok c = read_moment _ c.in-Ok.moment c.in-Ok.ensures ∙ ap moment_in c.as_bytes.ensures.value

pub returns-in-Err : goal.returns-in-Err
returns-in-Err c = read_none _ _ c.in-Err.ensures ∙ ap moment_in c.as_bytes.ensures.value

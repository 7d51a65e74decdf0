use Rattle.std.proofs.Common.{ap, map, ◌∙◌}
use Rattle.runcheck.proofs.LineByLine.{Line, told_by_lines}
use Rattle.runcheck.proofs.told.told_of.Goals as goal

pub returns : goal.returns
returns c = told_by_lines c.args.text.now c.as_slice.result.now c.told_in.result (ap (map (λ (l : Line). l.now)) c.as_slice.ensures.value ∙ c.in_ok-lines.ensures) c.told_in.ensures

use Rattle.runcheck.proofs.LineByLine.{in_parts, told_in_lines, too_few_lines}
use Rattle.runcheck.proofs.told.told_in.Goals as goal

pub returns-in_default : goal.returns-in_default
returns-in_default c = too_few_lines c.args.lines.now c.in_default.len_below

pub returns-in-len2-up : goal.returns-in-len2-up
returns-in-len2-up c = told_in_lines c.args.lines.now _ _ _ c.told_among.result (in_parts c.args.lines.now _ _ c.in-len2-up.len_at_least) c.told_among.ensures

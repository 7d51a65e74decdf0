use Rattle.runcheck.proofs.Between.{too_few_parts}
use Rattle.runcheck.proofs.told.told_parts.Goals as goal

pub returns-in_default : goal.returns-in_default
returns-in_default c = too_few_parts c.args.items.now c.in_default.len_below

use Rattle.std.proofs.Common.{sym, ◌∙◌}
use Rattle.runcheck.proofs.Endings.{stopped_ended}
use Rattle.runcheck.proofs.ending.at_the_stop.Goals as goal

pub returns-else-is_failed : goal.returns-else-is_failed
returns-else-is_failed c = stopped_ended c.args.head.now c.args.context c.of_stopped.result (sym c.is_failed.ensures ∙ c.if-is_failed.false) c.of_stopped.ensures

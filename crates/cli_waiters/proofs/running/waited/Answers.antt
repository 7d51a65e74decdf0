use Rattle.std.proofs.Common.{◌∙◌, Err, ap}
use Rattle.waiter_fleet.proofs.Ends.{good_not_bad}
use Rattle.cli_waiters.proofs.running.waited.Goals as goal

-- good plans aren't refused
pub unreachable-requires : goal.unreachable-requires
unreachable-requires c =
    good_not_bad c.args.plans.now c.in-Err-BadPlan.field-0-0 c.requires.good
    ((c.wait_all.ensures.bad_plan c.in-Err-BadPlan.field-0-0).0 (c.in-Err-BadPlan.is ∙ ap Err c.in-Err-BadPlan.field-0-is))

use Rattle.std.proofs.Common.{◌∙◌, ap, subst, sym}
use Rattle.cli_waiters.specs.Fleet.Waiters.{plans_of}
use Rattle.waiter_fleet.specs.Plans.{AllGood}
use Rattle.cli_waiters.proofs.Plans.{all_good}
use Rattle.cli_waiters.proofs.command.print_of.Goals as goal

pub waited-requires-clause-good : goal.waited-requires-clause-good
waited-requires-clause-good c =
    subst AllGood (sym (c.as_slice-2.ensures.value ∙ (c.in_ok-plans.ensures ∙ ap plans_of c.as_slice.ensures)))
    (all_good c.args.script.waiters c.requires.good)

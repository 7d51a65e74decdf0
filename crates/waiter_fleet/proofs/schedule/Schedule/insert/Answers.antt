use Rattle.std.proofs.Common.{heap_items, subst, sym}
use Rattle.waiter_fleet.specs.Schedules.{Adds, NoneIsOf, dues_of}
use Rattle.waiter_fleet.proofs.Queues.{adds-pushed, queue-pushed}
use Rattle.waiter_fleet.proofs.schedule.Schedule.insert.Goals as goal

pub invariant_of-self-2 : goal.invariant_of-self-2
invariant_of-self-2 c =
    queue-pushed _ _ _ c.self.invariant (subst (NoneIsOf c.args.due.waiter) (sym c.self.view_is) c.requires) c.in_ok-push.ensures.permutation
    c.in_ok-push.ensures.heap_order

pub returns : goal.returns
returns c = record {
  added = subst (λ old. Adds old c.args.due (dues_of (heap_items c.push.new.self))) c.self.view_is (adds-pushed _ _ _ c.in_ok-push.ensures.permutation);
}

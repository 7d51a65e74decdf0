use Rattle.waiter_fleet.proofs.Queues.{queue-none}
use Rattle.waiter_fleet.proofs.schedule.Schedule.new.Goals as goal

pub invariant_of-result : goal.invariant_of-result
invariant_of-result c = queue-none _ c.new.ensures.items c.new.ensures.heap_order

use Rattle.std.proofs.Common.{arith}
use Rattle.waiter_fleet.proofs.running.schedule_of.Goals as goal

pub insert-requires : goal.insert-requires
insert-requires c one has same =
    let within = c.loop-waiter.invariant.within one has in
    absurd (omega (arith, within, same))

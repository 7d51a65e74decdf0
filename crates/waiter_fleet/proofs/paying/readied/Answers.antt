use Rattle.waiter_fleet.proofs.Pays.{asks-later, ready-ends}
use Rattle.waiter_fleet.proofs.Exits.{result_mapped}
use Rattle.waiter_fleet.proofs.paying.readied.Goals as goal

pub returns-clause-events : goal.returns-clause-events
returns-clause-events g c o start acts stands seated turn settled paid =
    let asks = asks-later g.W.FleetWorld.does o start acts c.args.waiter c.args.seat.now seated turn settled paid c.if-seat-eq1.false in
    result_mapped c.pay.result _ _ _ (λ one ends. ready-ends g.W.FleetWorld.does o start acts c.args.waiter _ _ _ _ c.args.seat.now one seated asks ends)
    (c.pay.ensures.events o start acts stands asks)

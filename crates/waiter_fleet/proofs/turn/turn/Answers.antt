use Rattle.std.proofs.Common.{refl, sym, ◌∙◌}
use Rattle.waiter_fleet.proofs.Exits.{result_mapped}
use Rattle.waiter_fleet.proofs.Goes.{breaks-waiting, turn_ends-joined, turns-refused}
use Rattle.waiter_fleet.proofs.turn.turn.Goals as goal

pub returns-in-Charged-clause-events : goal.returns-in-Charged-clause-events
returns-in-Charged-clause-events g c o acts stands seated turn settled paid =
    let ends = c.in-Ok.ensures.events o c.args.start acts stands seated turn settled paid in
    let ready = rw c.in-Charged.is at ends in
    result_mapped c.taken.result _ _ _
    (λ one over. turn_ends-joined g.W.FleetWorld.does o c.args.start c.args.waiter acts ready.acts c.args.seat.now _ _ _ _ _ one ready.others
    (sym ready.seated.ends ∙ seated.ends) over)
    (c.taken.ensures.events o ready.acts c.readied.new.bucket ready.stands ready.seated ready.may)

pub returns-in-Refused-clause-events : goal.returns-in-Refused-clause-events
returns-in-Refused-clause-events g c o acts stands seated turn settled paid =
    let ends = c.in-Ok.ensures.events o c.args.start acts stands seated turn settled paid in
    let refused = rw c.in-Refused.is at ends in
    turns-refused g.W.FleetWorld.does o c.args.start c.args.waiter acts c.args.seat.now _ refused seated paid refl refl refl refl refl

pub returns-in-Spent-clause-events : goal.returns-in-Spent-clause-events
returns-in-Spent-clause-events g c o acts stands seated turn settled paid =
    let ends = c.in-Ok.ensures.events o c.args.start acts stands seated turn settled paid in
    let out = rw c.in-Spent.is at ends in
    (breaks-waiting g.W.FleetWorld.does o c.args.start c.args.waiter acts out, refl)

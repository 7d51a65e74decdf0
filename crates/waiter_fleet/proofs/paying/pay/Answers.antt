use Rattle.std.proofs.Common.{refl, ◌∙◌}
use Rattle.std.proofs.lemmas.Result.{err_from_is_err_and}
use Rattle.smithy_types.specs.declared.timers.TimersCall.TheVariants.{Now}
use Rattle.waiter_fleet.specs.Calls.{timed, waiter_call}
use Rattle.waiter_fleet.proofs.Exits.{refused_exit}
use Rattle.waiter_fleet.proofs.Pays.{halts-charged, halts-refused, pays-asleep, pays-awoken, pays-charged, pays-refused}
use Rattle.waiter_fleet.proofs.Standing.{sleeps-chained}
use Rattle.waiter_fleet.proofs.paying.pay.Goals as goal

pub returns-then-not-awake-clause-events : goal.returns-then-not-awake-clause-events
returns-then-not-awake-clause-events g c o start acts stands asks =
    let woke = c.if-not-awake.ensures in
    pays-asleep g.W.FleetWorld.does o start acts c.args.waiter c.args.sleep woke.calls.0 stands asks woke.calls.1 (woke.all_spent refl)

pub returns-then-not-awake-clause-sleeps : goal.returns-then-not-awake-clause-sleeps
returns-then-not-awake-clause-sleeps g c =
    sleeps-chained g.W.FleetWorld.does g.W.Timers.sleeps
    (λ one call next done. g.met.W.WaiterTimers.sleeps_stay one (waiter_call call) next (g.met.W.FleetWorld.makes_it one call next done))
    _ _ _ c.awake.ensures.calls.1.made

pub returns-then-log-eq0-clause-events : goal.returns-then-log-eq0-clause-events
returns-then-log-eq0-clause-events g c o start acts stands asks =
    let woke = c.if-not-awake.ensures in
    pays-awoken g.W.FleetWorld.does o start acts c.args.waiter c.args.sleep woke.calls.0 stands asks woke.calls.1 c.if-log-eq0.true

pub returns-then-log-eq0-clause-sleeps : goal.returns-then-log-eq0-clause-sleeps
returns-then-log-eq0-clause-sleeps g c =
    sleeps-chained g.W.FleetWorld.does g.W.Timers.sleeps
    (λ one call next done. g.met.W.WaiterTimers.sleeps_stay one (waiter_call call) next (g.met.W.FleetWorld.makes_it one call next done))
    _ _ _ c.awake.ensures.calls.1.made

pub returns-in_err-add-clause-events : goal.returns-in_err-add-clause-events
returns-in_err-add-clause-events g c o start acts stands asks =
    let woke = c.if-not-awake.ensures in
    let charged = c.if-charge.ensures in
    let p = err_from_is_err_and c.from_residual.result c.from_residual.ensures.1 in
    refused_exit c.from_residual.result _ _ p.0 p.1
    (halts-charged g.W.FleetWorld.does o start acts c.args.waiter c.args.sleep woke.calls.0 stands asks c.now-moment.result woke.calls.1
    (g.met.W.FleetWorld.made _ (timed (Now c.now-moment.result)) _ refl (g.met.W.WaiterTimers.timers_make _ _ _ c.now-moment.ensures.related))
    c.if-log-eq0.false
    _ charged.granted charged.book)

pub returns-in_err-add-clause-sleeps : goal.returns-in_err-add-clause-sleeps
returns-in_err-add-clause-sleeps g c =
    c.now-moment.ensures.same_sleeps ∙ sleeps-chained g.W.FleetWorld.does g.W.Timers.sleeps
    (λ one call next done. g.met.W.WaiterTimers.sleeps_stay one (waiter_call call) next (g.met.W.FleetWorld.makes_it one call next done))
    _ _ _ c.awake.ensures.calls.1.made

pub returns-then-charge-clause-events : goal.returns-then-charge-clause-events
returns-then-charge-clause-events g c o start acts stands asks =
    let woke = c.if-not-awake.ensures in
    let charged = c.if-charge.ensures in
    rw c.add.ensures.same_fuel
    (pays-charged g.W.FleetWorld.does o start acts c.args.waiter c.args.sleep woke.calls.0 stands asks c.now-moment.result woke.calls.1
    (g.met.W.FleetWorld.made _ (timed (Now c.now-moment.result)) _ refl (g.met.W.WaiterTimers.timers_make _ _ _ c.now-moment.ensures.related))
    c.if-log-eq0.false
    _ _ charged.granted charged.book c.in_ok-add.ensures.added)

pub returns-then-charge-clause-sleeps : goal.returns-then-charge-clause-sleeps
returns-then-charge-clause-sleeps g c =
    c.now-moment.ensures.same_sleeps ∙ sleeps-chained g.W.FleetWorld.does g.W.Timers.sleeps
    (λ one call next done. g.met.W.WaiterTimers.sleeps_stay one (waiter_call call) next (g.met.W.FleetWorld.makes_it one call next done))
    _ _ _ c.awake.ensures.calls.1.made

pub returns-in_err-refuse-clause-events : goal.returns-in_err-refuse-clause-events
returns-in_err-refuse-clause-events g c o start acts stands asks =
    let woke = c.if-not-awake.ensures in
    let refused = c.if-charge.ensures in
    let p = err_from_is_err_and c.from_residual-in_err-refuse.result c.from_residual-in_err-refuse.ensures.1 in
    refused_exit c.from_residual-in_err-refuse.result _ _ p.0 p.1
    (halts-refused g.W.FleetWorld.does o start acts c.args.waiter c.args.sleep woke.calls.0 stands asks c.now-moment.result woke.calls.1
    (g.met.W.FleetWorld.made _ (timed (Now c.now-moment.result)) _ refl (g.met.W.WaiterTimers.timers_make _ _ _ c.now-moment.ensures.related))
    c.if-log-eq0.false
    c.cost-cost.result _ refused.granted refused.book c.cost-cost.ensures)

pub returns-in_err-refuse-clause-sleeps : goal.returns-in_err-refuse-clause-sleeps
returns-in_err-refuse-clause-sleeps g c =
    c.now-moment.ensures.same_sleeps ∙ sleeps-chained g.W.FleetWorld.does g.W.Timers.sleeps
    (λ one call next done. g.met.W.WaiterTimers.sleeps_stay one (waiter_call call) next (g.met.W.FleetWorld.makes_it one call next done))
    _ _ _ c.awake.ensures.calls.1.made

pub returns-clause-events : goal.returns-clause-events
returns-clause-events g c o start acts stands asks =
    let woke = c.if-not-awake.ensures in
    let refused = c.if-charge.ensures in
    rw c.refuse.ensures.same_fuel
    (pays-refused g.W.FleetWorld.does o start acts c.args.waiter c.args.sleep woke.calls.0 stands asks c.now-moment.result woke.calls.1
    (g.met.W.FleetWorld.made _ (timed (Now c.now-moment.result)) _ refl (g.met.W.WaiterTimers.timers_make _ _ _ c.now-moment.ensures.related))
    c.if-log-eq0.false
    c.cost-cost.result _ _ refused.granted refused.book c.cost-cost.ensures c.in_ok-refuse.ensures.added)

pub returns-clause-sleeps : goal.returns-clause-sleeps
returns-clause-sleeps g c =
    c.now-moment.ensures.same_sleeps ∙ sleeps-chained g.W.FleetWorld.does g.W.Timers.sleeps
    (λ one call next done. g.met.W.WaiterTimers.sleeps_stay one (waiter_call call) next (g.met.W.FleetWorld.makes_it one call next done))
    _ _ _ c.awake.ensures.calls.1.made

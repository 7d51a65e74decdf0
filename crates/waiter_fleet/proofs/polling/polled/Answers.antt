use Rattle.std.proofs.Common.{refl, ◌∙◌}
use Rattle.std.proofs.lemmas.Result.{err_from_is_err_and}
use Rattle.smithy_types.specs.declared.timers.TimersCall.TheVariants.{Now}
use Rattle.waiter_fleet.specs.Calls.{timed, waiter_call}
use Rattle.waiter_fleet.specs.Steps.{unpolled}
use Rattle.waiter_fleet.proofs.Closes.{polled-found, spends-poll}
use Rattle.waiter_fleet.proofs.Exits.{refused_exit}
use Rattle.waiter_fleet.proofs.Standing.{halts-spent, runs_out, sleeps-chained}
use Rattle.waiter_fleet.proofs.polling.polled.Goals as goal

pub returns-in-Err-clause-events : goal.returns-in-Err-clause-events
returns-in-Err-clause-events g c o acts book stands may =
    halts-spent g.W.FleetWorld.does o c.args.start stands c.in-Err.ensures.calls.1

pub returns-in-Err-clause-sleeps : goal.returns-in-Err-clause-sleeps
returns-in-Err-clause-sleeps g c =
    sleeps-chained g.W.FleetWorld.does g.W.Timers.sleeps
    (λ one call next done. g.met.W.WaiterTimers.sleeps_stay one (waiter_call call) next (g.met.W.FleetWorld.makes_it one call next done))
    _ _ _ c.in-Err.ensures.calls.1.made

pub returns-in-None-clause-events : goal.returns-in-None-clause-events
returns-in-None-clause-events g c o acts book stands may =
    let asked = rw c.in-None.is at c.in-Ok.ensures in
    runs_out g.W.FleetWorld.does o c.args.start stands asked.calls.1 (unpolled c.args.waiter asked.calls.0 may.turn may.paid) may.settled (asked.all_spent refl)

pub returns-in-None-clause-sleeps : goal.returns-in-None-clause-sleeps
returns-in-None-clause-sleeps g c =
    sleeps-chained g.W.FleetWorld.does g.W.Timers.sleeps
    (λ one call next done. g.met.W.WaiterTimers.sleeps_stay one (waiter_call call) next (g.met.W.FleetWorld.makes_it one call next done))
    _ _ _ c.in-Ok.ensures.calls.1.made

pub returns-in_err-add-clause-events : goal.returns-in_err-add-clause-events
returns-in_err-add-clause-events g c o acts book stands may =
    let asked = rw c.in-Some.is at c.in-Ok.ensures in
    let p = err_from_is_err_and c.from_residual.result c.from_residual.ensures.1 in
    refused_exit c.from_residual.result _ _ p.0 p.1
    (halts-spent g.W.FleetWorld.does o c.args.start stands
    (spends-poll g.W.FleetWorld.does _ c.args.waiter asked.calls.0 c.args.seat.now.number c.now-moment.result _ _ asked.calls.1
    (g.met.W.FleetWorld.made _ (timed (Now c.now-moment.result)) _ refl (g.met.W.WaiterTimers.timers_make _ _ _ c.now-moment.ensures.related))))

pub returns-in_err-add-clause-sleeps : goal.returns-in_err-add-clause-sleeps
returns-in_err-add-clause-sleeps g c =
    c.now-moment.ensures.same_sleeps ∙ sleeps-chained g.W.FleetWorld.does g.W.Timers.sleeps
    (λ one call next done. g.met.W.WaiterTimers.sleeps_stay one (waiter_call call) next (g.met.W.FleetWorld.makes_it one call next done))
    _ _ _ c.in-Ok.ensures.calls.1.made

pub returns-clause-events : goal.returns-clause-events
returns-clause-events g c o acts book stands may =
    let asked = rw c.in-Some.is at c.in-Ok.ensures in
    rw c.add.ensures.same_fuel
    (polled-found g.W.FleetWorld.does o c.args.start c.args.waiter acts c.args.seat.now _ asked.calls.0 _ _ _ _ stands may asked.calls.1
    (g.met.W.FleetWorld.made _ (timed (Now c.now-moment.result)) _ refl (g.met.W.WaiterTimers.timers_make _ _ _ c.now-moment.ensures.related))
    c.in_ok-add.ensures.added c.saturating_sub-elapsed.ensures c.end_of-end.ensures)

pub returns-clause-sleeps : goal.returns-clause-sleeps
returns-clause-sleeps g c =
    c.now-moment.ensures.same_sleeps ∙ sleeps-chained g.W.FleetWorld.does g.W.Timers.sleeps
    (λ one call next done. g.met.W.WaiterTimers.sleeps_stay one (waiter_call call) next (g.met.W.FleetWorld.makes_it one call next done))
    _ _ _ c.in-Ok.ensures.calls.1.made

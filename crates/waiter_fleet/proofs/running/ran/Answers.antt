use Rattle.std.proofs.Common.{arith, refl, ◌∙◌}
use Rattle.std.proofs.lemmas.Result.{err_from_is_err_and}
use Rattle.smithy_types.specs.declared.timers.TimersCall.TheVariants.{Now}
use Rattle.waiter_fleet.specs.Acts.{events_of}
use Rattle.waiter_fleet.specs.Calls.{timed}
use Rattle.waiter_fleet.proofs.Exits.{refused_exit}
use Rattle.waiter_fleet.proofs.Runs.{halts-first, over-ended, over-spent, popped-first}
use Rattle.waiter_fleet.proofs.running.ran.Goals as goal

pub returns-in_err-seats : goal.returns-in_err-seats
returns-in_err-seats g c =
    let p = err_from_is_err_and c.from_residual.result c.from_residual.ensures.1 in
    refused_exit c.from_residual.result _ _ p.0 p.1 (
      c.now-start.result,
      halts-first g.W.FleetWorld.does _ c.now-start.result
          (g.met.W.FleetWorld.made _ (timed (Now c.now-start.result)) _ refl (g.met.W.WaiterTimers.timers_make _ _ _ c.now-start.ensures.related)),
    )

pub returns-in_err-schedule : goal.returns-in_err-schedule
returns-in_err-schedule g c =
    let p = err_from_is_err_and c.from_residual-in_err-schedule.result c.from_residual-in_err-schedule.ensures.1 in
    refused_exit c.from_residual-in_err-schedule.result _ _ p.0 p.1 (
      c.now-start.result,
      halts-first g.W.FleetWorld.does _ c.now-start.result
          (g.met.W.FleetWorld.made _ (timed (Now c.now-start.result)) _ refl (g.met.W.WaiterTimers.timers_make _ _ _ c.now-start.ensures.related)),
    )

pub returns-in-None : goal.returns-in-None
returns-in-None g c = over-ended g.W.FleetWorld.does _ c.now-start.result c.loop-log.invariant.goes c.in-None.ensures

pub step-requires-clause-within : goal.step-requires-clause-within
step-requires-clause-within g c =
    let goes = c.loop-log.invariant.goes in
    let popped = popped-first _ c.now-start.result (events_of goes.acts) _ _ _ goes.scheduled c.in-Some.ensures in
    let counted = goes.between.seated.count in
    let within = popped.turn.within in
    omega (arith, counted, within)

pub returns-in-Err : goal.returns-in-Err
returns-in-Err g c =
    let goes = c.loop-log.invariant.goes in
    let popped = popped-first _ c.now-start.result (events_of goes.acts) _ _ _ goes.scheduled c.in-Some.ensures in
    (c.now-start.result, c.in-Err.ensures.events _ goes.acts goes.between popped)

pub returns-then-not-more : goal.returns-then-not-more
returns-then-not-more g c =
    let goes = c.loop-log.invariant.goes in
    let popped = popped-first _ c.now-start.result (events_of goes.acts) _ _ _ goes.scheduled c.in-Some.ensures in
    let stepped = c.in-Ok.ensures.events _ goes.acts goes.between popped in
    rw c.if-not-more.true at stepped

pub loop-log-preserved : goal.loop-log-preserved
loop-log-preserved g c =
    let goes = c.loop-log.invariant.goes in
    let popped = popped-first _ c.now-start.result (events_of goes.acts) _ _ _ goes.scheduled c.in-Some.ensures in
    let stepped = c.in-Ok.ensures.events _ goes.acts goes.between popped in
    record { goes = rw c.if-not-more.false at stepped; has_sleep = c.step.ensures.sleeps ∙ c.loop-log.invariant.has_sleep }

pub returns : goal.returns
returns g c = over-spent g.W.FleetWorld.does _ c.now-start.result c.loop-log.invariant.goes (omega (arith, c.loop-log-test.false))

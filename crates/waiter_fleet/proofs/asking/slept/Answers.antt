use Rattle.std.proofs.Common.{arith, false, refl, suc, true}
use Rattle.smithy_types.specs.declared.timers.TimersCall.TheVariants.{Ready}
use Rattle.waiter_fleet.specs.Calls.{parked, timed}
use Rattle.waiter_fleet.proofs.Asks.{spends-over, spends-unready}
use Rattle.waiter_fleet.proofs.asking.slept.Goals as goal

pub returns-then-ready-clause-calls : goal.returns-then-ready-clause-calls
returns-then-ready-clause-calls g c = (
  c.loop-fuel.invariant.0,
  spends-over g.W.FleetWorld.does _ _ _ _ _ _ _ (λ none. omega (arith, c.loop-fuel-test.true))
      (g.met.W.FleetWorld.made _ (timed (Ready c.args.sleep true)) _ refl (g.met.W.WaiterTimers.timers_make _ _ _ (rw c.if-ready.true at c.ready.ensures.related)))
      c.loop-fuel.invariant.1,
)

pub loop-fuel-preserved : goal.loop-fuel-preserved
loop-fuel-preserved g c = (
  suc c.loop-fuel.invariant.0,
  spends-unready g.W.FleetWorld.does _ _ _ _ _ _ _ _ (λ none. omega (arith, c.loop-fuel-test.true))
      (g.met.W.FleetWorld.made _ (timed (Ready c.args.sleep false)) _ refl (g.met.W.WaiterTimers.timers_make _ _ _ (rw c.if-ready.false at c.ready.ensures.related)))
      (g.met.W.FleetWorld.made _ parked _ refl c.park.ensures) c.loop-fuel.invariant.1,
)

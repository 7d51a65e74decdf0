use Rattle.std.proofs.Common.{refl, suc}
use Rattle.waiter_fleet.specs.Calls.{parked}
use Rattle.waiter_fleet.proofs.Asks.{spends-found, spends-pending, spends-refused}
use Rattle.waiter_fleet.proofs.asking.answered.Goals as goal

pub returns-in-Err-clause-calls : goal.returns-in-Err-clause-calls
returns-in-Err-clause-calls g c = (
  c.loop-fuel.invariant.0,
  spends-refused g.W.FleetWorld.does _ _ _ _ _ _ _ _ c.in-Err.ensures c.loop-fuel.invariant.1,
)

pub returns-in-Some-clause-calls : goal.returns-in-Some-clause-calls
returns-in-Some-clause-calls g c = (
  c.loop-fuel.invariant.0,
  spends-found g.W.FleetWorld.does _ _ _ _ _ _ _ _ c.if-fuel-eq0.false (rw c.in-Some.is at c.in-Ok.ensures) c.loop-fuel.invariant.1,
)

pub loop-fuel-preserved : goal.loop-fuel-preserved
loop-fuel-preserved g c = (
  suc c.loop-fuel.invariant.0,
  spends-pending g.W.FleetWorld.does _ _ _ _ _ _ _ _ c.if-fuel-eq0.false (rw c.in-None.is at c.in-Ok.ensures)
      (g.met.W.FleetWorld.made _ parked _ refl c.park.ensures) c.loop-fuel.invariant.1,
)

use Rattle.std.proofs.Common.{suc}
use Rattle.waiters.proofs.Spending.{spends-answered, spends-pending, spends-refused}
use Rattle.waiters.proofs.asking.answered.Goals as goal

pub returns-in-Err-clause-calls : goal.returns-in-Err-clause-calls
returns-in-Err-clause-calls g c = (
  c.loop-fuel.invariant.0,
  spends-refused g.T.WaiterTimers.makes (goal.G-post g c.args.operation.now) c.requires.keeps
      _ _ _ _ _ _ _ _ (c.requires.counted, c.ranges.number.fits) c.in-Err.ensures c.loop-fuel.invariant.1,
)

pub returns-in-Some-clause-calls : goal.returns-in-Some-clause-calls
returns-in-Some-clause-calls g c = (
  c.loop-fuel.invariant.0,
  spends-answered g.T.WaiterTimers.makes (goal.G-post g c.args.operation.now) c.requires.keeps
      _ _ _ _ _ _ _ _ (c.requires.counted, c.ranges.number.fits) (rw c.in-Some.is at c.in-Ok.ensures) c.if-fuel-eq0.false c.loop-fuel.invariant.1,
)

pub loop-fuel-preserved : goal.loop-fuel-preserved
loop-fuel-preserved g c = (
  suc c.loop-fuel.invariant.0,
  spends-pending g.T.WaiterTimers.makes (goal.G-post g c.args.operation.now) c.requires.keeps
      _ _ _ _ _ _ _ _ (c.requires.counted, c.ranges.number.fits) (rw c.in-None.is at c.in-Ok.ensures) c.park.ensures c.if-fuel-eq0.false c.loop-fuel.invariant.1,
)

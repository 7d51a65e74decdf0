use Rattle.std.proofs.Common.{suc, arith}
use Rattle.waiters.proofs.Spending.{timers_spend-over, timers_spend-unready}
use Rattle.waiters.proofs.asking.slept.Goals as goal

pub returns-then-ready-clause-calls : goal.returns-then-ready-clause-calls
returns-then-ready-clause-calls g c = (
  c.loop-fuel.invariant.0,
  timers_spend-over g.T.WaiterTimers.makes _ _ _ _ _ _ _
      (g.met.T.WaiterTimers.timers_make _ _ _ (rw c.if-ready.true at c.ready.ensures.related)) (λ none. omega (arith, c.loop-fuel-test.true)) c.loop-fuel.invariant.1,
)

pub loop-fuel-preserved : goal.loop-fuel-preserved
loop-fuel-preserved g c = (
  suc c.loop-fuel.invariant.0,
  timers_spend-unready g.T.WaiterTimers.makes _ _ _ _ _ _ _ _
      (g.met.T.WaiterTimers.timers_make _ _ _ (rw c.if-ready.false at c.ready.ensures.related)) c.park.ensures (λ none. omega (arith, c.loop-fuel-test.true)) c.loop-fuel.invariant.1,
)

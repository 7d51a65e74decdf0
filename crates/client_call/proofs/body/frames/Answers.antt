use Rattle.client_call.proofs.Called.{err_by}
use Rattle.client_call.proofs.ReadLemmas.{had_enough, stopped, went_nowhere, went_on}
use Rattle.smithy_types.proofs.ChainLemmas.{chained_join}
use Rattle.client_call.proofs.body.frames.Goals as goal

pub loop-init : goal.loop-init
loop-init g c = went_nowhere g.X.Outside.makes g.X.Timers.sleeps g.met.X.Outside.sleeps_stay _ _

pub returns-in-Some-clause-ok : goal.returns-in-Some-clause-ok
returns-in-Some-clause-ok g c =
    stopped g.X.Outside.makes g.X.Timers.sleeps g.met.X.Outside.sleeps_stay _ _ _ _ _ _ c.loop.counter c.in-Some.stop c.loop-test.true c.loop.invariant (rw c.in-Some.is at c.in_ok-stop.ensures.ok)

pub loop-preserved : goal.loop-preserved
loop-preserved g c = went_on g.X.Outside.makes g.X.Timers.sleeps g.met.X.Outside.sleeps_stay _ _ _ _ _ _ c.loop.counter c.loop.invariant (rw c.in-None.is at c.in_ok-stop.ensures.ok)

pub returns-in_err-stop-clause-err : goal.returns-in_err-stop-clause-err
returns-in_err-stop-clause-err g c = err_by g.X.Outside.makes _ _ _ _ (chained_join g.X.Outside.makes _ _ _ _ _ c.loop.invariant.made c.in_err-stop.ensures.err.1)

use Rattle.client_call.proofs.GuardLemmas.{judged_by}
use Rattle.client_call.proofs.Called.{err_timed}
use Rattle.client_call.proofs.guards.pass_throughput.Goals as goal

pub returns-in-Some-clause-ok : goal.returns-in-Some-clause-ok
returns-in-Some-clause-ok g c = rw c.in-Some.is
    (judged_by g.X.Outside.makes g.X.Timers.relates g.met.X.Outside.timers_make _ c.in-Some.body _ c.args.frame c.judge.result _ _ c.judge.ensures)

pub returns-in-Some-clause-err : goal.returns-in-Some-clause-err
returns-in-Some-clause-err g c = err_timed g.X.Outside.makes g.X.Timers.relates g.met.X.Outside.timers_make c.judge.result _ _ _ c.judge.ensures.made

use Rattle.client_call.proofs.ReadLemmas.{asked}
use Rattle.client_call.proofs.Called.{err_after, err_one}
use Rattle.client_call.proofs.body.frame.Goals as goal

pub returns-clause-ok : goal.returns-clause-ok
returns-clause-ok g c = asked g.X.Outside.makes g.X.Timers.sleeps g.met.X.Outside.sleeps_stay c.args.reading.now _ c.pass.new.self c.in_ok-frame.frame c.in_ok-passed.passed _ c.gather.result _ _ _
    c.in_ok-frame.ensures c.ends-over.ensures c.in_ok-passed.ensures.ok c.gather.ensures

pub returns-in_err-frame-clause-err : goal.returns-in_err-frame-clause-err
returns-in_err-frame-clause-err g c = err_one g.X.Outside.makes _ _ _ _ c.in_err-frame.ensures

pub returns-in_err-passed-clause-err : goal.returns-in_err-passed-clause-err
returns-in_err-passed-clause-err g c = err_after g.X.Outside.makes _ _ _ _ _ _ c.in_ok-frame.ensures c.in_err-passed.ensures.err.1

pub returns-clause-err : goal.returns-clause-err
returns-clause-err g c = err_after g.X.Outside.makes c.gather.result _ _ _ _ _ c.in_ok-frame.ensures c.in_ok-passed.ensures.ok.made

use Rattle.client_call.proofs.ReadLemmas.{read}
use Rattle.client_call.proofs.Called.{err_behind}
use Rattle.client_call.proofs.body.body.Goals as goal

pub returns-clause-ok : goal.returns-clause-ok
returns-clause-ok g c = read g.X.Outside.makes g.X.Timers.sleeps g.met.X.Outside.sleeps_stay _ _ _ _ _ c.read_on.result _ _ _ c.open.ensures c.read_on.ensures.ok

pub returns-clause-err : goal.returns-clause-err
returns-clause-err g c = err_behind g.X.Outside.makes c.read_on.result _ _ _ _ c.open.ensures.made c.read_on.ensures.err

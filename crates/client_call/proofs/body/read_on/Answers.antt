use Rattle.std.proofs.Common.{sym}
use Rattle.client_call.proofs.ReadLemmas.{closed}
use Rattle.smithy_types.proofs.ChainLemmas.{chained_join}
use Rattle.client_call.proofs.Called.{err_by}
use Rattle.client_call.proofs.body.read_on.Goals as goal

pub returns-in-Ok-clause-ok : goal.returns-in-Ok-clause-ok
returns-in-Ok-clause-ok g c = closed g.X.Outside.makes g.X.Timers.sleeps g.met.X.Outside.sleeps_stay c.in-Reading.open _ c.args.call.now _ c.in-Ok.stop c.close.result _ _ _
    (sym c.in-Reading.ensures.value) c.in-Ok.ensures.ok c.close.ensures.closes c.close.ensures.calls

pub returns-in-Ok-clause-err : goal.returns-in-Ok-clause-err
returns-in-Ok-clause-err g c = err_by g.X.Outside.makes c.close.result _ _ _ (chained_join g.X.Outside.makes _ _ _ _ _ c.in-Ok.ensures.ok.made c.close.ensures.calls)

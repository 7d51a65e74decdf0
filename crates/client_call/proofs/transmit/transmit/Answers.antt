use Rattle.client_call.proofs.SendLemmas.{sent_on}
use Rattle.smithy_types.proofs.ChainLemmas.{chained_more}
use Rattle.client_call.proofs.Called.{err_behind, err_by}
use Rattle.client_call.proofs.transmit.transmit.Goals as goal

pub returns-clause-ok : goal.returns-clause-ok
returns-clause-ok g c = rw c.in-Some.is
    (sent_on g.X.Outside.makes g.X.Timers.sleeps g.met.X.Outside.sleeps_stay _ _ _ _ c.in_ok-upload.upload c.in_ok-sent.sent c.answer.result _ _ _ _
    (rw c.get.ensures at c.in_ok-upload.ensures.ok) c.in_ok-sent.ensures c.answer.ensures.ok)

pub returns-in_err-sent-clause-err : goal.returns-in_err-sent-clause-err
returns-in_err-sent-clause-err g c = err_by g.X.Outside.makes _ _ _ _ (chained_more g.X.Outside.makes _ _ _ _ _ c.in_ok-upload.ensures.ok.made c.in_err-sent.ensures)

pub returns-clause-err : goal.returns-clause-err
returns-clause-err g c =
    err_behind g.X.Outside.makes c.answer.result _ _ _ _ (chained_more g.X.Outside.makes _ _ _ _ _ c.in_ok-upload.ensures.ok.made c.in_ok-sent.ensures) c.answer.ensures.err

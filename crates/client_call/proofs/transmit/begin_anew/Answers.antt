use Rattle.client_call.proofs.Called.{err_by}
use Rattle.client_call.proofs.SendLemmas.{begun}
use Rattle.smithy_types.proofs.ChainLemmas.{chained_join, chained_more}
use Rattle.client_call.proofs.transmit.begin_anew.Goals as goal

pub returns-clause-ok : goal.returns-clause-ok
returns-clause-ok g c = begun g.X.Outside.makes _ _ c.args.call.now c.in_ok-upload.upload _ _ _ _ c.quiet.ensures.calls c.in_ok-upload.ensures.ok c.in_ok-begin.ensures

pub returns-in_err-upload-clause-err : goal.returns-in_err-upload-clause-err
returns-in_err-upload-clause-err g c = err_by g.X.Outside.makes _ _ _ _ (chained_join g.X.Outside.makes _ _ _ _ _ c.quiet.ensures.calls c.in_err-upload.ensures.err.1)

pub returns-in_err-begin-clause-err : goal.returns-in_err-begin-clause-err
returns-in_err-begin-clause-err g c = err_by g.X.Outside.makes _ _ _ _ (chained_join g.X.Outside.makes _ _ _ _ _ c.quiet.ensures.calls (chained_more g.X.Outside.makes _ _ _ _ _ c.in_ok-upload.ensures.ok.made c.in_err-begin.ensures))

use Rattle.client_call.proofs.UploadLemmas.{looked}
use Rattle.client_call.proofs.Called.{err_timed}
use Rattle.client_call.proofs.upload.Upload.look.Goals as goal

pub returns-clause-ok : goal.returns-clause-ok
returns-clause-ok g c = looked g.X.Outside.makes g.X.Timers.relates g.met.X.Outside.timers_make _ c.args.self.now _ _ c.check.result _ _ c.check.ensures

pub returns-clause-err : goal.returns-clause-err
returns-clause-err g c = err_timed g.X.Outside.makes g.X.Timers.relates g.met.X.Outside.timers_make c.check.result _ _ _ c.check.ensures.made

use Rattle.client_call.proofs.UploadLemmas.{watched}
use Rattle.client_call.proofs.upload.Upload.new.Goals as goal

pub returns-clause-ok : goal.returns-clause-ok
returns-clause-ok g c = watched g.X.Outside.makes g.X.Timers.relates g.met.X.Outside.timers_make c.args.options _ c.in_ok-whole.whole c.now-now.result c.start_log-log.result _ _ c.new-reading.result _ _ _ _ _
    c.now-now.ensures.related c.in_ok-whole.ensures c.new-reading.ensures c.start_log-log.ensures.log c.start_log-log.ensures.kept c.poll_frame.ensures c.new.ensures

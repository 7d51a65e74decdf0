use Rattle.std.proofs.Common.{◌∷◌, refl}
use Rattle.smithy_types.specs.declared.timers.TimersCall.TheVariants.{Now}
use Rattle.body_guard.proofs.upload.UploadThroughputCheck.check.Goals as goal

pub returns : goal.returns
returns g c = record {
  calls = Now c.now-now.result ∷ c.look-said.ensures.calls;
  these = record {
    now = c.now-now.result;
    report = c.report-report.result;
    settings = c.report-report.ensures.settings;
    kept = c.report-report.ensures.kept;
    reported = c.report-report.ensures.report;
    said = c.look-said.result;
    granting = c.look-said.ensures.calls;
    grants = rw (c.now-now.ensures.same_sleeps, c.upload_rate.ensures) at c.look-said.ensures.these;
    answered = c.upload_answer.ensures;
    calls_are = refl;
  };
  made = (_, c.now-now.ensures.related, c.look-said.ensures.made);
}

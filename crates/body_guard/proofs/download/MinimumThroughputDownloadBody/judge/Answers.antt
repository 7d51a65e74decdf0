use Rattle.std.proofs.Common.{◌∷◌, refl, sym}
use Rattle.smithy_types.specs.declared.timers.TimersCall.TheVariants.{Now}
use Rattle.body_guard.proofs.download.MinimumThroughputDownloadBody.judge.Goals as goal

pub returns : goal.returns
returns g c = record {
  calls = Now c.now-now.result ∷ c.look-said.ensures.calls;
  these = rw (sym c.ends.ensures, c.if-ends.false) (record {
    now = c.now-now.result;
    report = c.see-report.result;
    sees = c.see-report.ensures;
    said = c.look-said.result;
    granting = c.look-said.ensures.calls;
    grants = rw (c.now-now.ensures.same_sleeps, c.download_rate.ensures) at c.look-said.ensures.these;
    answered = c.passed.ensures;
    body = refl;
    calls_are = refl;
  });
  made = (_, c.now-now.ensures.related, c.look-said.ensures.made);
}

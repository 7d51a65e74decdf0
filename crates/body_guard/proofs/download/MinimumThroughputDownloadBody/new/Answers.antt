use Rattle.std.proofs.Common.{◌∷◌, [], ap, refl}
use Rattle.smithy_types.proofs.ChainLemmas.{chained_one}
use Rattle.smithy_types.specs.declared.timers.TimersCall.TheVariants.{Now}
use Rattle.body_guard.proofs.download.MinimumThroughputDownloadBody.new.Goals as goal

pub returns : goal.returns
returns g c = record {
  calls = Now c.now-now.result ∷ [];
  these = record {
    now = c.now-now.result;
    start = ap (λ l. l.start) c.start_log.ensures.log;
    resolution = ap (λ l. l.resolution) c.start_log.ensures.log;
    complete = ap (λ l. l.complete) c.start_log.ensures.log;
    kept = c.start_log.ensures.kept;
    grace = c.new.ensures;
    body_is = refl;
    calls_are = refl;
  };
  made = chained_one g.T.Timers.relates _ _ _ c.now-now.ensures.related;
}

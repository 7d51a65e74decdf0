use Rattle.std.proofs.Common.{refl}
use Rattle.smithy_types.proofs.ChainLemmas.{chained_join}
use Rattle.client_auth.specs.declared.cached.Opened.TheVariants as opened
use Rattle.client_auth.proofs.Lacking.{called}
use Rattle.client_auth.proofs.cached.resolve_cached.Goals as goal

pub returns-in_ok-answer-in-Load-clause-ok : goal.returns-in_ok-answer-in-Load-clause-ok
returns-in_ok-answer-in-Load-clause-ok g c =
    let looked = c.in_ok-identity.ensures.ok in
    let goes = c.in_ok-answer-in-Load.ensures.ok in (
      _,
      chained_join g.X.Outside.makes _ _ _ _ _ looked.1 goes.1,
      record {
        found = opened.Load;
        cache_looked = c.open_load.new.cache;
        open_looked = c.open_load.new.current;
        looking = looked.0;
        opens = rw c.in-Load.is at looked.2;
        answering = goes.0;
        answered = goes.2;
        calls_are = refl;
      },
    )

pub returns-in_err-answer-in-Load-clause-err : goal.returns-in_err-answer-in-Load-clause-err
returns-in_err-answer-in-Load-clause-err g c =
    called g.X.Outside.makes _ _ _ _ (chained_join g.X.Outside.makes _ _ _ _ _ c.in_ok-identity.ensures.ok.1 c.in_err-answer-in-Load.ensures.err.1)

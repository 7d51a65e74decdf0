use Rattle.std.proofs.Common.{refl}
use Rattle.smithy_types.proofs.ChainLemmas.{chained_join}
use Rattle.client_auth.proofs.Lacking.{called}
use Rattle.client_auth.proofs.cached.go_on.Goals as goal

pub returns-clause-ok : goal.returns-clause-ok
returns-clause-ok g c =
    let asked = c.in_ok-polled.ensures.ok in
    let goes = c.in_ok-answer.ensures.ok in (
      _,
      chained_join g.X.Outside.makes _ _ _ _ _ asked.1 goes.1,
      record {
        answer = c.in_ok-polled.polled;
        load_asked = c.ask_registered.new.load;
        asking = asked.0;
        asks = asked.2;
        going_on = goes.0;
        continues = goes.2;
        calls_are = refl;
      },
    )

pub returns-in_err-answer-clause-err : goal.returns-in_err-answer-clause-err
returns-in_err-answer-clause-err g c =
    called g.X.Outside.makes _ _ _ _ (chained_join g.X.Outside.makes _ _ _ _ _ c.in_ok-polled.ensures.ok.1 c.in_err-answer.ensures.err.1)

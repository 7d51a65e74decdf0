use Rattle.std.proofs.Common.{◌≡◌, ◌∷◌, [], true, refl}
use Rattle.smithy_types.proofs.ChainLemmas.{chained_one}
use Rattle.smithy_types.specs.declared.timers.TimersCall.TheVariants.{Now}
use Rattle.body_guard.specs.Upload.{is_event}
use Rattle.body_guard.proofs.upload.note_event.Goals as goal

pub returns : goal.returns
returns g c =
    let event : is_event c.args.answer.now ≡ true = cc in record {
      calls = Now c.now-now.result ∷ [];
      these = record { now = c.now-now.result; settings = c.push_event.ensures.settings; kept = c.push_event.ensures.kept; calls_are = rw event refl };
      made = chained_one g.T.Timers.relates _ _ _ c.now-now.ensures.related;
    }

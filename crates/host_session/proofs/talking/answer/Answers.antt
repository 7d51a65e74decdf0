use Rattle.std.proofs.Common.{List, ℕ, subst}
use Rattle.cli_shell.specs.Sink.{AddsFront}
use Rattle.host_session.proofs.TalkLemmas.{lost, no_memory}
use Rattle.host_session.proofs.talking.answer.Goals as goal

pub returns-in-Ok-clause-untold : goal.returns-in-Ok-clause-untold
returns-in-Ok-clause-untold g c =
    lost _ c.args.line.now c.args.session.now _ c.in-Ok.come _ _ _ _ c.new-told.ensures.items c.in-Ok.ensures
    (subst (λ (t : List ℕ). AddsFront (g.K.Sink.view c.args.sink.now) t (g.K.Sink.view c.write_all.new.sink)) c.as_slice.ensures.value
    c.in-Err-write_all.ensures.front)
    c.in-Err-write_all.ensures.fault

pub returns-clause-untold : goal.returns-clause-untold
returns-clause-untold g c = no_memory _ _ _ _ _

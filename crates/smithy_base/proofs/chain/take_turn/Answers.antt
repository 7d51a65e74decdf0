use Rattle.std.proofs.Common.{◌∙◌, sym}
use Rattle.smithy_base.proofs.ChainTurns.{turned, turn_noted, turn_kept}
use Rattle.smithy_base.proofs.chain.take_turn.Goals as goal

pub returns-clause-ok : goal.returns-clause-ok
returns-clause-ok g c =
    turn_noted g.I.Intercept.names g.I.Intercept.hooks g.I.Intercept.runs c.args.hook c.note.result c.args.walk.now c.note.new.self c.args.one.now c.in_ok-answer.answer c.run.new.self
    (turned g.I.Intercept.names g.I.Intercept.hooks g.I.Intercept.runs c.args.hook _ _ _ _ (sym c.is_run.ensures ∙ c.if-not-is_run.false) (c.in_ok-answer.ensures.ok)) c.note.ensures

pub returns-clause-err : goal.returns-clause-err
returns-clause-err g c =
    turn_kept g.I.Intercept.names g.I.Intercept.hooks g.I.Intercept.runs c.args.hook c.note.result _ c.args.one.now c.in_ok-answer.answer c.run.new.self
    (turned g.I.Intercept.names g.I.Intercept.hooks g.I.Intercept.runs c.args.hook _ _ _ _ (sym c.is_run.ensures ∙ c.if-not-is_run.false) (c.in_ok-answer.ensures.ok))

use Rattle.std.proofs.Common.{ap, get_or, sym, ◌∙◌}
use Rattle.smithy_base.proofs.ChainTurns.{chain_unrun, done_together, one_turn, stopped_by}
use Rattle.smithy_base.proofs.chain.run_each.Goals as goal

pub returns-then-not-is_overridden-clause-ok : goal.returns-then-not-is_overridden-clause-ok
returns-then-not-is_overridden-clause-ok g c =
    chain_unrun g.I.Intercept.names g.I.Intercept.hooks g.I.Intercept.runs c.args.hook c.args.view.now c.args.chain.now c.done.result
    (sym c.is_overridden.ensures ∙ c.if-not-is_overridden.true)
    (done_together c.args.hook c.done.result c.done.ensures.change c.done.ensures.settings c.done.ensures.failure)

pub returns-in_err-take_turn-clause-err : goal.returns-in_err-take_turn-clause-err
returns-in_err-take_turn-clause-err g c =
    stopped_by g.I.Intercept.names g.I.Intercept.hooks g.I.Intercept.runs c.args.hook c.take_turn.result _ c.args.view.now c.args.chain.now c.loop-i.chain c.loop-i.i c.loop-i.walk
    (get_or c.loop-i.chain c.loop-i.i c.index-chain-i.result) c.take_turn.new.one _ c.in_err-take_turn.was (rw c.loop-i.auto.chain c.loop-i-test.true) c.loop-i.auto.chain (ap (get_or c.loop-i.chain c.loop-i.i) c.index-chain-i.is) c.loop-i.invariant
    c.take_turn.ensures.err

pub loop-i-preserved : goal.loop-i-preserved
loop-i-preserved g c =
    let turn = c.in_ok-take_turn.ensures.ok in
    one_turn g.I.Intercept.names g.I.Intercept.hooks g.I.Intercept.runs c.args.hook c.args.view.now c.args.chain.now c.loop-i.chain c.loop-i.i c.loop-i.walk c.take_turn.new.walk
    (get_or c.loop-i.chain c.loop-i.i c.index-chain-i.result) c.take_turn.new.one turn.0 (rw c.loop-i.auto.chain c.loop-i-test.true) c.loop-i.auto.chain (ap (get_or c.loop-i.chain c.loop-i.i) c.index-chain-i.is) c.loop-i.invariant turn.1 turn.2

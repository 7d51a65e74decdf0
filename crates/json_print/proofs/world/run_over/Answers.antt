use Rattle.json_print.proofs.world.HadMemories.{related_if_ended, related_if_stopped}
use Rattle.json_print.proofs.world.Invoking.{ends_if}
use Rattle.json_print.proofs.world.run_over.Goals as goal

pub returns-in-None-clause-ends : goal.returns-in-None-clause-ends
returns-in-None-clause-ends g c =
    ends_if c.args.head.now c.in_ok-input.input c.invoke-answer.result c.of.result _ _ c.in-None.is c.in_ok-input.ensures.cases c.of.ensures
    c.invoke-answer.ensures.answered

pub returns-in-None-clause-related : goal.returns-in-None-clause-related
returns-in-None-clause-related g c =
    related_if_ended g.W.World.relates c.args.head.now c.invoke-answer.result c.of.result c.args.world.now c.invoke-answer.new.world _ _ c.of.ensures c.invoke-answer.ensures.related

pub returns-in-BeforeTransmit-clause-related : goal.returns-in-BeforeTransmit-clause-related
returns-in-BeforeTransmit-clause-related g c =
    related_if_stopped g.W.World.relates c.args.head.now c.invoke_with_stop_point-answer.result c.of_stopped.result c.args.world.now c.invoke_with_stop_point-answer.new.world _ _ c.of_stopped.ensures
    c.invoke_with_stop_point-answer.ensures.related

use Rattle.smithy_base.proofs.ChainTurns.{HadTurns}
use Rattle.smithy_base.proofs.chain.run_each.Given as goal

-- those before i had their turns, and the others are as they were
abbrev pub invariant-loop-i : goal.invariant-loop-i
invariant-loop-i g l = HadTurns g.I.Intercept.names g.I.Intercept.hooks g.I.Intercept.runs l.fn.hook l.fn.view l.fn.chain l.chain l.i l.walk

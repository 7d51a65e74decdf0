use Rattle.waiters.proofs.Pausing.{pauses-not, pauses-refused}
use Rattle.waiters.proofs.asking.paused.Goals as goal

pub returns-then-delay-eq0-clause-calls : goal.returns-then-delay-eq0-clause-calls
returns-then-delay-eq0-clause-calls g c = (0, 0, pauses-not g.T.WaiterTimers.makes _ _ _ c.if-delay-eq0.true)

pub returns-in-Err-clause-calls : goal.returns-in-Err-clause-calls
returns-in-Err-clause-calls g c =
    (0, 0, pauses-refused g.T.WaiterTimers.makes _ _ _ _ _ (g.met.T.WaiterTimers.timers_make _ _ _ c.in-Err.ensures.related))

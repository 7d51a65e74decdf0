use Rattle.std.proofs.Common.{ap, ◌∙◌, Some}
use Rattle.host_session.proofs.TalkLemmas.{broken_by, stopped_closed, stopped_end}
use Rattle.host_session.proofs.talking.talk.Goals as goal

pub returns-in-Ok-Some-Closed-clause-talks : goal.returns-in-Ok-Some-Closed-clause-talks
returns-in-Ok-Some-Closed-clause-talks g c =
    stopped_closed _ _ _ _ _ c.loop-turns.invariant.0
    (rw (c.in-Ok-Some-Closed.field-0-is ∙ ap Some c.in-Ok-Some-Closed.field-0-0-is) at c.in-Ok-Some-Closed.ensures.goes)

pub returns-in-Ok-None-clause-talks : goal.returns-in-Ok-None-clause-talks
returns-in-Ok-None-clause-talks g c =
    stopped_end _ _ _ _ _ c.loop-turns.invariant.0 (rw c.in-Ok-None.field-0-is at c.in-Ok-None.ensures.goes)

pub returns-in-Err-clause-talks : goal.returns-in-Err-clause-talks
returns-in-Err-clause-talks g c = broken_by _ _ _ _ _ _ c.loop-turns.invariant.0 c.in-Err.ensures.breaks

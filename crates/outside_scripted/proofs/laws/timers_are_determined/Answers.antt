use Rattle.std.proofs.Common.{◌∙◌, sym, refl}
use Rattle.outside_scripted.proofs.laws.timers_are_determined.Goals as goal

pub returns-clause-now : goal.returns-clause-now
returns-clause-now c old new other a b p q = (p.0 ∙ sym q.0, p.1 ∙ sym q.1)

pub returns-clause-start : goal.returns-clause-start
returns-clause-start c nanos old new other a b p q = (p.0 ∙ sym q.0, p.1 ∙ sym q.1)

pub returns-clause-ready : goal.returns-clause-ready
returns-clause-ready c sleep old new other a b p q = (p.0 ∙ sym q.0, p.1 ∙ sym q.1)

pub returns-clause-give_up : goal.returns-clause-give_up
returns-clause-give_up c sleep old new other a b p q = (refl, p ∙ sym q)

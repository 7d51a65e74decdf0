use Rattle.std.proofs.Common.{◌∙◌, sym}
use Rattle.outside_hosted.proofs.DeterminedLemmas.{gives, hands, moves, resolves}
use Rattle.outside_hosted.proofs.laws.answers_follow.Goals as goal

pub returns-clause-moves : goal.returns-clause-moves
returns-clause-moves c old new other call p q = moves old new other call p q

pub returns-clause-now : goal.returns-clause-now
returns-clause-now c old new other a b p q = p.0 ∙ sym q.0

pub returns-clause-start : goal.returns-clause-start
returns-clause-start c nanos old new other a b p q = p.0 ∙ sym q.0

pub returns-clause-ready : goal.returns-clause-ready
returns-clause-ready c sleep old new other a b p q = p.0 ∙ sym q.0

pub returns-clause-poll : goal.returns-clause-poll
returns-clause-poll c old new other a b p q = (hands old new other old.call a b p q).0

pub returns-clause-frame : goal.returns-clause-frame
returns-clause-frame c old new other a b p q = (gives old new other old.call a b p q).0

pub returns-clause-resolve : goal.returns-clause-resolve
returns-clause-resolve c id old new other a b p q = (resolves old new other id old.load a b p q).0

pub returns-clause-word : goal.returns-clause-word
returns-clause-word c old new other a b p q = p.0 ∙ sym q.0

use Rattle.std.proofs.Common.{◌∙◌, sym, ap, refl}
use Rattle.outside_scripted.specs.Call.{answer_at}
use Rattle.outside_scripted.proofs.DeterminedLemmas.{hands, gives}
use Rattle.outside_scripted.proofs.laws.responses_are_determined.Goals as goal

pub returns-clause-begin : goal.returns-clause-begin
returns-clause-begin c request settings old new other a b p q = (refl, p ∙ sym q)

pub returns-clause-poll : goal.returns-clause-poll
returns-clause-poll c old new other a b p q = hands old new other (answer_at old.moment old.call) a b p q

pub returns-clause-frame : goal.returns-clause-frame
returns-clause-frame c old new other a b p q =
    let same = gives old.moment old.call new.call other.call a b p.0 q.0 in
    (same.0, p.1 ∙ ap (λ call. record old { call = call }) same.1 ∙ sym q.1)

pub returns-clause-drop_call : goal.returns-clause-drop_call
returns-clause-drop_call c old new other a b p q = (refl, p ∙ sym q)

use Rattle.std.proofs.Common.{◌∙◌, sym, ap, refl, position}
use Rattle.outside_scripted.specs.Loads.{has_id}
use Rattle.outside_scripted.specs.Makes.{dues, identities_of}
use Rattle.outside_scripted.proofs.DeterminedLemmas.{resolves, wakes}
use Rattle.outside_scripted.proofs.laws.the_rest_is_determined.Goals as goal

pub returns-clause-resolve : goal.returns-clause-resolve
returns-clause-resolve c id old new other a b p q = resolves old new other (position (has_id id) (identities_of old.identities)) a b p q

pub returns-clause-drop_resolve : goal.returns-clause-drop_resolve
returns-clause-drop_resolve c old new other a b p q = (refl, p ∙ sym q)

pub returns-clause-word : goal.returns-clause-word
returns-clause-word c old new other a b p q = (p.0 ∙ sym q.0, p.1 ∙ sym q.1)

pub returns-clause-poison : goal.returns-clause-poison
returns-clause-poison c number old new other a b p q = (refl, p ∙ sym q)

pub returns-clause-park : goal.returns-clause-park
returns-clause-park c old new other a b p q =
    (refl, p.1 ∙ ap (λ moment. record old { moment = moment }) (wakes old.moment (dues old) new.moment other.moment p.0 q.0) ∙ sym q.1)

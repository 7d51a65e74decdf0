use Rattle.body_guard.proofs.RunLemmas.{all_guarded}
use Rattle.body_guard.proofs.laws.answers_are_guarded.Goals as goal

pub returns : goal.returns
returns g c body after steps had made = all_guarded body after steps 0 had made

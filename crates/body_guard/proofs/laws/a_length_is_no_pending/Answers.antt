use Rattle.body_guard.proofs.RunLemmas.{length_pending}
use Rattle.body_guard.proofs.laws.a_length_is_no_pending.Goals as goal

pub returns : goal.returns
returns g c old new inner count had made = length_pending old new inner count had made

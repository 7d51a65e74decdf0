use Rattle.laws_determined.proofs.client.Answered.{answers_once}
use Rattle.laws_determined.proofs.client.answers_are_determined.Goals as goal

pub returns : goal.returns
returns g c = answers_once _ _ _ _

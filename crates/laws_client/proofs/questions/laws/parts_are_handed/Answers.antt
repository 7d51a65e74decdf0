use Rattle.laws_client.proofs.questions.Handed.{parts_handed}
use Rattle.laws_client.proofs.questions.laws.parts_are_handed.Goals as goal

pub returns : goal.returns
returns c = parts_handed

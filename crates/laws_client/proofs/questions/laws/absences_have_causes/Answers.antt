use Rattle.laws_client.proofs.questions.Answered.{absences_caused}
use Rattle.laws_client.proofs.questions.laws.absences_have_causes.Goals as goal

pub returns : goal.returns
returns g c = absences_caused _

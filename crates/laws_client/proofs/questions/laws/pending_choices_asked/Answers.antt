use Rattle.laws_client.proofs.questions.PendingChoices.{pending_asked}
use Rattle.laws_client.proofs.questions.laws.pending_choices_asked.Goals as goal

pub returns : goal.returns
returns g c = pending_asked _

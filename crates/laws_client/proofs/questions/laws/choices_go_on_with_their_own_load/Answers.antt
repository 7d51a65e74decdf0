use Rattle.laws_client.proofs.questions.OwnRuns.{own_loads}
use Rattle.laws_client.proofs.questions.laws.choices_go_on_with_their_own_load.Goals as goal

pub returns : goal.returns
returns g c = own_loads _

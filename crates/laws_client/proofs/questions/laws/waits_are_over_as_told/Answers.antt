use Rattle.laws_client.proofs.questions.KeptSleeps.{waits_are_over_as_told}
use Rattle.laws_client.proofs.questions.laws.waits_are_over_as_told.Goals as goal

pub returns : goal.returns
returns g c = waits_are_over_as_told _ g.met.T.Outside.Outside.sleeps_stay g.met.T.Outside.Outside.sleep_is_started

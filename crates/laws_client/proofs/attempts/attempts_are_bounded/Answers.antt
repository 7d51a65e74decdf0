use Rattle.laws_client.proofs.attempts.Bounded.{bounded}
use Rattle.laws_client.proofs.attempts.attempts_are_bounded.Goals as goal

pub returns : goal.returns
returns c = bounded

use Rattle.laws_client.proofs.retries.Attempts.{settings_bound}
use Rattle.laws_client.proofs.retries.settings_bound_attempts.Goals as goal

pub returns : goal.returns
returns c = settings_bound c.attempts_are_bounded.ensures

use Rattle.laws_client.proofs.attempts.Decided.{decided}
use Rattle.laws_client.proofs.attempts.further_attempts_are_decided.Goals as goal

pub returns : goal.returns
returns c = decided

use Rattle.laws_determined.proofs.auth.Applied.{applies_once}
use Rattle.laws_determined.proofs.auth.applies_are_determined.Goals as goal

pub returns : goal.returns
returns c = applies_once

use Rattle.orchestrate.proofs.RefusedLaw.{configurations_are_refused}
use Rattle.orchestrate.proofs.laws.a_failed_configuration_is_a_construction_failure.Goals as goal

pub returns : goal.returns
returns c = configurations_are_refused

use Rattle.cli_fleet.proofs.Telling.{tell_steps}
use Rattle.cli_fleet.proofs.laws.a_callers_runs_tell_its_steps.Goals as goal

pub returns : goal.returns
returns c = λ bucket runs steps others h k. tell_steps bucket runs steps others h k

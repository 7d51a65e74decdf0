use Rattle.cli_fleet.proofs.Deciding.{all_steps}
use Rattle.cli_fleet.proofs.laws.a_callers_steps_are_its_decisions.Goals as goal

pub returns : goal.returns
returns c = λ place work text outcome steps w. all_steps place work text outcome steps w

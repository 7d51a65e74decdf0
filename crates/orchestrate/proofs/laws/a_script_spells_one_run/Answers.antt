use Rattle.orchestrate.proofs.SpelledLaw.{one_spelled_run}
use Rattle.orchestrate.proofs.laws.a_script_spells_one_run.Goals as goal

pub returns : goal.returns
returns c = one_spelled_run

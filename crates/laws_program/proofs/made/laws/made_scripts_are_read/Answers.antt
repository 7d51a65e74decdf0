use Rattle.json_scripts.proofs.workload.Limits.{made_fits}
use Rattle.laws_program.proofs.made.Scripts.{made_read, made_short}
use Rattle.laws_program.proofs.made.laws.made_scripts_are_read.Goals as goal

pub returns-clause-read : goal.returns-clause-read
returns-clause-read c = made_read

pub returns-clause-fits : goal.returns-clause-fits
returns-clause-fits c = made_fits

pub returns-clause-short : goal.returns-clause-short
returns-clause-short c = made_short

use Rattle.cli_shell.proofs.Determined.{one_status, one_text}
use Rattle.cli_wait.specs.Wait.{wait_says}
use Rattle.laws_program.proofs.waits.Told.{wait_once}
use Rattle.laws_program.proofs.waits.waits_are_determined.Goals as goal

pub returns-clause-status : goal.returns-clause-status
returns-clause-status g c = one_status g.K.Sink.view wait_says wait_once

pub returns-clause-text : goal.returns-clause-text
returns-clause-text g c = one_text g.K.Sink.view wait_says wait_once

use Rattle.cli_shell.proofs.Determined.{one_status, one_text}
use Rattle.cli_waiters.specs.Waiters.{waiters_says}
use Rattle.cli_waiters.proofs.Determined.{waiters-once}
use Rattle.cli_waiters.proofs.laws.waiters_are_determined.Goals as goal

pub returns-clause-status : goal.returns-clause-status
returns-clause-status g c = one_status g.K.Sink.view waiters_says waiters-once

pub returns-clause-text : goal.returns-clause-text
returns-clause-text g c = one_text g.K.Sink.view waiters_says waiters-once

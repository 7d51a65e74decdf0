use Rattle.cli_client.specs.Client.{client_says}
use Rattle.cli_shell.proofs.Determined.{one_status, one_text}
use Rattle.laws_program.proofs.clients.Said.{client_once}
use Rattle.laws_program.proofs.clients.clients_are_determined.Goals as goal

pub returns-clause-status : goal.returns-clause-status
returns-clause-status g c = one_status g.K.Sink.view client_says client_once

pub returns-clause-text : goal.returns-clause-text
returns-clause-text g c = one_text g.K.Sink.view client_says client_once

use Rattle.cli_shell.proofs.Determined.{one_status, one_text}
use Rattle.cli_shell.proofs.laws.servings_are_determined.Goals as goal

pub returns-clause-status : goal.returns-clause-status
returns-clause-status g c = λ command. one_status g.K.Sink.view (g.C.Command.says command) (g.met.C.Settled.one_says command)

pub returns-clause-text : goal.returns-clause-text
returns-clause-text g c = λ command. one_text g.K.Sink.view (g.C.Command.says command) (g.met.C.Settled.one_says command)

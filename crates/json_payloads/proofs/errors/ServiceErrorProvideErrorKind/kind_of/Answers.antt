use Rattle.json_payloads.specs.Payloads.{message_in}
use Rattle.json_payloads.proofs.ErrorLemmas.{read_by_status, with_message}
use Rattle.json_payloads.proofs.errors.ServiceErrorProvideErrorKind.kind_of.Goals as goal

pub returns-in-Some-clause-accepted : goal.returns-in-Some-clause-accepted
returns-in-Some-clause-accepted g c = λ accepted.
    (with_message (message_in c.args.payload.now) c.in-Some.error, read_by_status g.E.ModeledError.of_status c.in-Some.error c.args.payload.now c.in-Some.ensures, c.retry.ensures)

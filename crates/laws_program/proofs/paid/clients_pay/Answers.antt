use Rattle.laws_program.proofs.paid.Paid.{clients_pay}
use Rattle.laws_program.proofs.paid.clients_pay.Goals as goal

pub returns : goal.returns
returns c = clients_pay c.settings_bound_attempts.ensures

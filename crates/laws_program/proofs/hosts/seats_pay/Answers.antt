use Rattle.laws_program.proofs.hosts.Paying.{conversations_pay, lines_pay}
use Rattle.laws_program.proofs.hosts.seats_pay.Goals as goal

pub returns-clause-line : goal.returns-clause-line
returns-clause-line c = lines_pay

pub returns-clause-conversation : goal.returns-clause-conversation
returns-clause-conversation c = conversations_pay

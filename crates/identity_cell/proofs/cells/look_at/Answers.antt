use Rattle.identity_cell.proofs.LookLemmas.{begin_load}
use Rattle.identity_cell.proofs.cells.look_at.Goals as goal

pub returns-in-Load-clause-answer : goal.returns-in-Load-clause-answer
returns-in-Load-clause-answer c = begin_load c.args.cell.now c.clear.new.self c.args.now c.in-Load.ticket (rw c.new.ensures at c.in_ok-identity.ensures.event) (rw (c.in-None.is, c.new.ensures) at c.in_ok-identity.ensures.answer) (rw c.in-Load.is at c.in_ok-ticket-in-None.ensures.answer)

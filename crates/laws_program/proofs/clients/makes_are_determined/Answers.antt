use Rattle.laws_program.proofs.clients.Said.{make_once}
use Rattle.laws_program.proofs.clients.makes_are_determined.Goals as goal

pub returns : goal.returns
returns c = make_once

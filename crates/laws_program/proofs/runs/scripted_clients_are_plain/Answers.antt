use Rattle.laws_program.proofs.runs.Parts.{own_alike, plain}
use Rattle.laws_program.proofs.runs.scripted_clients_are_plain.Goals as goal

pub returns-clause-clients : goal.returns-clause-clients
returns-clause-clients g c = plain _ _

pub returns-clause-own_interceptors : goal.returns-clause-own_interceptors
returns-clause-own_interceptors g c = own_alike

use Rattle.run_grammar.proofs.ScopeLaw.{attempt_scopes_end, operation_scopes_end}
use Rattle.run_grammar.proofs.laws.scopes_end.Goals as goal

pub returns : goal.returns
returns c = record { of_attempts = attempt_scopes_end; of_operations = operation_scopes_end }

use Rattle.run_grammar.proofs.SampleLists.{attempt_cut, operation_cuts, operation_cuts_attempt, operation_cuts_later, operation_cuts_pause}
use Rattle.run_grammar.proofs.samples.cuts.Goals as goal

pub returns-clause-operation : goal.returns-clause-operation
returns-clause-operation c = operation_cuts

pub returns-clause-operation_later : goal.returns-clause-operation_later
returns-clause-operation_later c = operation_cuts_later

pub returns-clause-operation_in_attempt : goal.returns-clause-operation_in_attempt
returns-clause-operation_in_attempt c = operation_cuts_attempt

pub returns-clause-attempt : goal.returns-clause-attempt
returns-clause-attempt c = attempt_cut

pub returns-clause-operation_in_pause : goal.returns-clause-operation_in_pause
returns-clause-operation_in_pause c = operation_cuts_pause

use Rattle.run_grammar.proofs.SampleLists.{body_fails, configuration_fails, first_hook_fails, granted_later, one_attempt_succeeds, stops_before_transmit, transmit_fails}
use Rattle.run_grammar.proofs.samples.single_attempts.Goals as goal

pub returns-clause-succeeds : goal.returns-clause-succeeds
returns-clause-succeeds c = one_attempt_succeeds

pub returns-clause-configuration_fails : goal.returns-clause-configuration_fails
returns-clause-configuration_fails c = configuration_fails

pub returns-clause-first_hook_fails : goal.returns-clause-first_hook_fails
returns-clause-first_hook_fails c = first_hook_fails

pub returns-clause-transmit_fails : goal.returns-clause-transmit_fails
returns-clause-transmit_fails c = transmit_fails

pub returns-clause-body_fails : goal.returns-clause-body_fails
returns-clause-body_fails c = body_fails

pub returns-clause-stops : goal.returns-clause-stops
returns-clause-stops c = stops_before_transmit

pub returns-clause-granted_later : goal.returns-clause-granted_later
returns-clause-granted_later c = granted_later

use Rattle.run_grammar.proofs.TokenLists.{pause_cut, refusal_pauses, refusal_unslept, token_cut, token_delays, token_fails, token_refused, token_unslept}
use Rattle.run_grammar.proofs.samples.tokens_and_pauses.Goals as goal

pub returns-clause-token_delays : goal.returns-clause-token_delays
returns-clause-token_delays c = token_delays

pub returns-clause-token_refused : goal.returns-clause-token_refused
returns-clause-token_refused c = token_refused

pub returns-clause-token_fails : goal.returns-clause-token_fails
returns-clause-token_fails c = token_fails

pub returns-clause-token_unslept : goal.returns-clause-token_unslept
returns-clause-token_unslept c = token_unslept

pub returns-clause-refusal_pauses : goal.returns-clause-refusal_pauses
returns-clause-refusal_pauses c = refusal_pauses

pub returns-clause-refusal_unslept : goal.returns-clause-refusal_unslept
returns-clause-refusal_unslept c = refusal_unslept

pub returns-clause-token_cut : goal.returns-clause-token_cut
returns-clause-token_cut c = token_cut

pub returns-clause-pause_cut : goal.returns-clause-pause_cut
returns-clause-pause_cut c = pause_cut

use Rattle.run_grammar.proofs.SampleLists.{retries, sent_once}
use Rattle.run_grammar.proofs.samples.further_attempts.Goals as goal

pub returns-clause-retries : goal.returns-clause-retries
returns-clause-retries c = retries

pub returns-clause-sent_once : goal.returns-clause-sent_once
returns-clause-sent_once c = sent_once

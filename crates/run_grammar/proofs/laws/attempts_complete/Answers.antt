use Rattle.run_grammar.proofs.AttemptLaw.{attempts_complete}
use Rattle.run_grammar.proofs.laws.attempts_complete.Goals as goal

pub returns : goal.returns
returns c = attempts_complete

use Rattle.run_grammar.proofs.TokenLaw.{tokens_stand}
use Rattle.run_grammar.proofs.laws.tokens_stand.Goals as goal

pub returns : goal.returns
returns c = tokens_stand

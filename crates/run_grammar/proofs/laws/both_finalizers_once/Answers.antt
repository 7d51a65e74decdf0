use Rattle.run_grammar.proofs.FinalLaw.{finalizers_once}
use Rattle.run_grammar.proofs.laws.both_finalizers_once.Goals as goal

pub returns : goal.returns
returns c = finalizers_once

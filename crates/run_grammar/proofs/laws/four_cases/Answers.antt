use Rattle.run_grammar.proofs.CaseProofs.{from_cases, to_cases}
use Rattle.run_grammar.proofs.laws.four_cases.Goals as goal

pub returns : goal.returns
returns c = λ stop s l. (to_cases stop s l, from_cases stop s l)

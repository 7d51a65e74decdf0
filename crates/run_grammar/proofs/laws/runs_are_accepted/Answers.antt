use Rattle.run_grammar.specs.Grammar.{run}
use Rattle.run_grammar.specs.Machine.{begin}
use Rattle.run_grammar.proofs.Positions.{fine_begin, word_coming, coming_word}
use Rattle.run_grammar.proofs.Steps.{accepted, accepted_back}
use Rattle.run_grammar.proofs.Rounds.{fine_run}
use Rattle.run_grammar.proofs.laws.runs_are_accepted.Goals as goal

pub returns : goal.returns
returns c = λ stop s l. (
  λ w. accepted l (begin (run stop) s) (fine_begin (run stop) (fine_run stop) s) s (word_coming (run stop) (fine_run stop) s l w),
  λ a. coming_word (run stop) (fine_run stop) s l (accepted_back l (begin (run stop) s) (fine_begin (run stop) (fine_run stop) s) s a),
)

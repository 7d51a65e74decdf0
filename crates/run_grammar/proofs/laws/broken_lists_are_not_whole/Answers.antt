use Rattle.run_grammar.proofs.Breaking.{no_late_question, no_missing_finalizers, no_open_attempt}
use Rattle.run_grammar.proofs.laws.broken_lists_are_not_whole.Goals as goal

pub returns : goal.returns
returns c = record { open_attempt = no_open_attempt; missing_finalizers = no_missing_finalizers; late_question = no_late_question }

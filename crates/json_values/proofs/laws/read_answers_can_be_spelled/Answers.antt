use Rattle.json_values.proofs.Spelled.{read_fits, read_is_spellable, read_again}
use Rattle.json_values.proofs.laws.read_answers_can_be_spelled.Goals as goal

pub returns-clause-fitting : goal.returns-clause-fitting
returns-clause-fitting c = read_fits

pub returns-clause-spellable : goal.returns-clause-spellable
returns-clause-spellable c = read_is_spellable

pub returns-clause-again : goal.returns-clause-again
returns-clause-again c = read_again

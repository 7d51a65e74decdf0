use Rattle.std.proofs.Common.{refl}
use Rattle.identity_cell.specs.Cell.{empty_cell}
use Rattle.identity_cell.proofs.RunLemmas.{run_legal}
use Rattle.identity_cell.proofs.laws.runs_are_legal.Goals as goal

pub returns : goal.returns
returns g c = λ buffer calls cell run. run_legal g.T.Clone.is_clone (empty_cell buffer) cell calls run refl

use Rattle.std.proofs.Common.{refl}
use Rattle.run_grammar.proofs.TheLaws.{begins_stands, stands_begins, there}
use Rattle.run_grammar.proofs.laws.begun_lists_are_taken.Goals as goal

pub returns : goal.returns
returns c = λ stop s l. (
  λ b. let w = begins_stands stop s l b in (w.path, w.handed, w.fitting),
  λ t. stands_begins stop s l (there stop s l) (record { path = t.0; handed = t.1; fitting = t.2; at = refl }),
)

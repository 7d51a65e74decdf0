use Rattle.std.proofs.Common.{◌∷◌, [], ◌++◌, sym, subst, arith}
use Rattle.outside_scripted.specs.Wake.{IsLeastAbove, IsNext}
use Rattle.outside_scripted.proofs.WakeLemmas.{keeps, first, lesser}
use Rattle.outside_scripted.proofs.wake.sooner.Goals as goal

pub returns-then-due-moment : goal.returns-then-due-moment
returns-then-due-moment c dues h = keeps c.args.moment c.args.due dues c.args.next (omega arith) h

pub returns-in-Some : goal.returns-in-Some
returns-in-Some c dues h =
    subst (IsLeastAbove c.args.moment (dues ++ c.args.due ∷ [])) (sym c.min.ensures)
    (lesser c.args.moment c.args.due c.in-Some.next dues (omega arith) (subst (IsNext c.args.moment dues) c.in-Some.is h))

pub returns-in-None : goal.returns-in-None
returns-in-None c dues h = first c.args.moment c.args.due dues (omega arith) (subst (IsNext c.args.moment dues) c.in-None.is h)

use Rattle.std.proofs.Common.{sym, subst, take}
use Rattle.std.proofs.lemmas.List.{take_more, take_all}
use Rattle.outside_scripted.specs.Wake.{IsNext}
use Rattle.outside_scripted.proofs.wake.earliest.Goals as goal

pub loop-due-preserved : goal.loop-due-preserved
loop-due-preserved c =
    subst (λ all. IsNext c.args.moment all c.sooner-next.result) (sym (take_more c.args.dues.now c.loop-due.due-index 0 c.loop-due-test.true))
    (c.sooner-next.ensures (take c.loop-due.due-index c.args.dues.now) c.loop-due.invariant)

pub returns : goal.returns
returns c =
    subst (λ all. IsNext c.args.moment all c.loop-due.next) (take_all c.loop-due.due-index c.args.dues.now c.loop-due-test.false) c.loop-due.invariant

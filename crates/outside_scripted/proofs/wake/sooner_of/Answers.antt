use Rattle.std.proofs.Common.{◌++◌, option_to_list, sym, subst}
use Rattle.std.proofs.lemmas.List.{append-nil}
use Rattle.outside_scripted.specs.Wake.{IsNext}
use Rattle.outside_scripted.proofs.wake.sooner_of.Goals as goal

pub returns-in-Some : goal.returns-in-Some
returns-in-Some c dues h =
    subst (λ due. IsNext c.args.moment (dues ++ option_to_list due) c.sooner.result) (sym c.in-Some.is) (c.sooner.ensures dues h)

pub returns-in-None : goal.returns-in-None
returns-in-None c dues h =
    subst (λ due. IsNext c.args.moment (dues ++ option_to_list due) c.args.next) (sym c.in-None.is)
    (subst (λ all. IsNext c.args.moment all c.args.next) (sym (append-nil dues)) h)

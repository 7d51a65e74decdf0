use Rattle.std.proofs.Common.{◌++◌, None, sym, subst, take}
use Rattle.std.proofs.lemmas.List.{append-nil, take_all}
use Rattle.outside_scripted.specs.Wake.{IsNext}
use Rattle.cli_waiters.specs.Fleet.Waiters.{open_dues}
use Rattle.cli_waiters.proofs.fleet.Dues.{open_dues-more}
use Rattle.cli_waiters.proofs.fleet.due.sooner_of_all.Goals as goal

pub loop-place-init : goal.loop-place-init
loop-place-init c dues h = subst (λ all. IsNext c.args.moment all c.args.next) (sym (append-nil dues)) h

pub loop-place-preserved : goal.loop-place-preserved
loop-place-preserved c dues h =
    subst (λ all. IsNext c.args.moment all c.sooner_of-least.result) (sym (open_dues-more dues c.args.places.now c.loop-place.place-index (record { number = 0; due = None }) c.loop-place-test.true))
    (c.sooner_of-least.ensures (dues ++ open_dues (take c.loop-place.place-index c.args.places.now)) (c.loop-place.invariant dues h))

pub returns : goal.returns
returns c dues h =
    subst (λ some. IsNext c.args.moment (dues ++ open_dues some) c.loop-place.least) (take_all c.loop-place.place-index c.args.places.now c.loop-place-test.false)
    (c.loop-place.invariant dues h)

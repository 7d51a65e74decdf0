use Rattle.std.proofs.Common.{length, refl, subst, sym}
use Rattle.std.proofs.lemmas.Option.{slice_get_read}
use Rattle.std.proofs.lemmas.Result.{err_from_is_err_and}
use Rattle.waiter_fleet.specs.declared.seat.Seat.{Seat}
use Rattle.waiter_fleet.specs.Seats.{Seated}
use Rattle.waiter_fleet.proofs.Exits.{refused_exit}
use Rattle.waiter_fleet.proofs.Goes.{goes-again, goes-ended, over-broken}
use Rattle.waiter_fleet.proofs.Standing.{kept-halts}
use Rattle.waiter_fleet.proofs.running.step.Goals as goal

pub returns-in-Err-clause-events : goal.returns-in-Err-clause-events
returns-in-Err-clause-events g c o acts between popped =
    let seats = c.args.seats.now.items in
    let got = slice_get_read seats (length seats) c.args.due.waiter c.index.result.now refl c.requires.within c.index.ensures in
    c.in-Err.ensures.events o acts between.stands (between.seated.each c.args.due.waiter c.index.result.now got) popped.turn between.settled
    (between.paid c.args.due.waiter)

pub returns-in_err-insert-in-Sleeps-clause-events : goal.returns-in_err-insert-in-Sleeps-clause-events
returns-in_err-insert-in-Sleeps-clause-events g c o acts between popped =
    let seats = c.args.seats.now.items in
    let got = slice_get_read seats (length seats) c.args.due.waiter c.index.result.now refl c.requires.within c.index.ensures in
    let ends = c.in-Ok.ensures.events o acts between.stands (between.seated.each c.args.due.waiter c.index.result.now got) popped.turn between.settled
    (between.paid c.args.due.waiter) in
    let rests = rw c.in-Sleeps.is at ends in
    let p = err_from_is_err_and c.from_residual.result c.from_residual.ensures.1 in
    refused_exit c.from_residual.result _ _ p.0 p.1 (kept-halts g.W.FleetWorld.does o c.args.start rests.turned.stands.kept)

pub returns-in_ok-insert-in-Sleeps-clause-events : goal.returns-in_ok-insert-in-Sleeps-clause-events
returns-in_ok-insert-in-Sleeps-clause-events g c o acts between popped =
    let seats = c.args.seats.now.items in
    let got = slice_get_read seats (length seats) c.args.due.waiter c.index.result.now refl c.requires.within c.index.ensures in
    let ends = c.in-Ok.ensures.events o acts between.stands (between.seated.each c.args.due.waiter c.index.result.now got) popped.turn between.settled
    (between.paid c.args.due.waiter) in
    let rests = rw c.in-Sleeps.is at ends in
    goes-again g.W.FleetWorld.does o c.args.start c.args.due.waiter c.args.due.moment acts between popped c.turn.new.seat c.in-Sleeps.moment _
    c.requires.within rests c.in_ok-insert-in-Sleeps.ensures.added

pub returns-in-Ended-clause-events : goal.returns-in-Ended-clause-events
returns-in-Ended-clause-events g c o acts between popped =
    let seats = c.args.seats.now.items in
    let got = slice_get_read seats (length seats) c.args.due.waiter c.index.result.now refl c.requires.within c.index.ensures in
    let ends = c.in-Ok.ensures.events o acts between.stands (between.seated.each c.args.due.waiter c.index.result.now got) popped.turn between.settled
    (between.paid c.args.due.waiter) in
    let over = rw c.in-Ended.is at ends in
    goes-ended g.W.FleetWorld.does o c.args.start c.args.due.waiter c.args.due.moment acts between popped c.turn.new.seat c.requires.within over

pub returns-in-Spent-clause-events : goal.returns-in-Spent-clause-events
returns-in-Spent-clause-events g c o acts between popped =
    let seats = c.args.seats.now.items in
    let got = slice_get_read seats (length seats) c.args.due.waiter c.index.result.now refl c.requires.within c.index.ensures in
    let seated = between.seated.each c.args.due.waiter c.index.result.now got in
    let ends = c.in-Ok.ensures.events o acts between.stands seated popped.turn between.settled (between.paid c.args.due.waiter) in
    let out = rw c.in-Spent.is at ends in
    let P : Seat → Type 0 = λ seat. Seated o.plans acts c.args.due.waiter seat in
    over-broken g.W.FleetWorld.does o c.args.start c.args.due.waiter c.args.due.moment acts between popped c.turn.new.seat c.requires.within
    (subst P (sym out.1) seated) out.0

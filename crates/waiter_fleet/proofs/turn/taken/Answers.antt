use Rattle.std.proofs.lemmas.Result.{err_from_is_err_and}
use Rattle.waiter_fleet.proofs.Exits.{refused_exit}
use Rattle.waiter_fleet.proofs.turn.taken.Goals as goal

pub returns-in_err-due-clause-events : goal.returns-in_err-due-clause-events
returns-in_err-due-clause-events g c o acts book stands seated may =
    let found = c.in-Ok.ensures.events o acts book stands may in
    let one = rw c.in-Some.is at found in
    let p = err_from_is_err_and c.from_residual.result c.from_residual.ensures.1 in
    refused_exit c.from_residual.result _ _ p.0 p.1
    (c.in_err-due.ensures.events o c.args.start acts book one seated may.paid may.turn.waits)

pub returns-in-Some-due-clause-events : goal.returns-in-Some-due-clause-events
returns-in-Some-due-clause-events g c o acts book stands seated may =
    let found = c.in-Ok.ensures.events o acts book stands may in
    let one = rw c.in-Some.is at found in
    let over = c.in_ok-due.ensures.events o c.args.start acts book one seated may.paid may.turn.waits in
    rw c.in-Some-due.is at over

pub returns-in-None-due-clause-events : goal.returns-in-None-due-clause-events
returns-in-None-due-clause-events g c o acts book stands seated may =
    let found = c.in-Ok.ensures.events o acts book stands may in
    let one = rw c.in-Some.is at found in
    let over = c.in_ok-due.ensures.events o c.args.start acts book one seated may.paid may.turn.waits in
    rw c.in-None-due.is at over

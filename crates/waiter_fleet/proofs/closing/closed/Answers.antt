use Rattle.std.proofs.Common.{arith, refl}
use Rattle.std.proofs.lemmas.Result.{err_from_is_err_and}
use Rattle.waiter_fleet.proofs.Closes.{closes-ended, closes-resting, halts-paused}
use Rattle.waiter_fleet.proofs.Exits.{refused_exit}
use Rattle.waiter_fleet.proofs.Standing.{halts-beyond}
use Rattle.waiter_fleet.proofs.closing.closed.Goals as goal

pub returns-in-Some-clause-events : goal.returns-in-Some-clause-events
returns-in-Some-clause-events g c o start acts book one seated paid waits =
    rw c.add.ensures.same_fuel
    (closes-ended g.W.FleetWorld.does o start c.args.waiter acts c.args.seat.now c.args.found one seated paid c.in-Some.end _ _
    (rw c.in-Some.is at one.ending) refl c.saturating_add-seat.ensures refl refl refl c.in_ok-add.ensures.added)

pub returns-in_err-pause-clause-events : goal.returns-in_err-pause-clause-events
returns-in_err-pause-clause-events g c o start acts book one seated paid waits =
    let p = err_from_is_err_and c.from_residual-in_err-pause.result c.from_residual-in_err-pause.ensures.1 in
    refused_exit c.from_residual-in_err-pause.result _ _ p.0 p.1
    (halts-beyond g.W.FleetWorld.does o start c.in_err-pause.ensures.calls.0 _ one.stands c.in_err-pause.ensures.calls.1)

pub returns-in_err-add-2-clause-events : goal.returns-in_err-add-2-clause-events
returns-in_err-add-2-clause-events g c o start acts book one seated paid waits =
    let p = err_from_is_err_and c.from_residual-in_err-add-2.result c.from_residual-in_err-add-2.ensures.1 in
    refused_exit c.from_residual-in_err-add-2.result _ _ p.0 p.1
    (halts-paused g.W.FleetWorld.does o start c.in_ok-pause.pause.word c.in_ok-pause.pause.nanos c.in_ok-pause.ensures.calls.0 _ one.stands c.in_ok-pause.ensures.calls.2)

pub returns-clause-events : goal.returns-clause-events
returns-clause-events g c o start acts book one seated paid waits =
    rw c.add-2.ensures.same_fuel
    (closes-resting g.W.FleetWorld.does o start c.args.waiter acts c.args.seat.now c.args.found one seated paid _ _
    c.in_ok-pause.pause.word c.in_ok-pause.pause.nanos c.in_ok-pause.ensures.calls.0 _ _
    (rw c.in_default.is at one.ending) c.in_ok-pause.ensures.delay c.in_ok-pause.ensures.calls.2 refl c.saturating_add-seat-2.ensures refl
    c.in_ok-pause.ensures.calls.1 refl waits c.in_ok-add-2.ensures.added (omega arith))

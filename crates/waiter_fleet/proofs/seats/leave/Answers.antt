use Rattle.std.proofs.Common.{ap, length, refl, sym, ◌∙◌}
use Rattle.std.proofs.lemmas.Option.{slice_get_read}
use Rattle.waiter_fleet.specs.declared.log.Log.{Log}
use Rattle.waiter_fleet.proofs.Ends.{leaves-ended, leaves-waiting}
use Rattle.waiter_fleet.proofs.seats.leave.Goals as goal
use Rattle.waiter_fleet.proofs.seats.leave.Goals.{then-not-seat+in_ok-add, else-not-seat}

pub loop-waiter-preserved : goal.loop-waiter-preserved
loop-waiter-preserved c events says =
    let seats = c.args.seats.now in
    let got = slice_get_read seats (length seats) c.loop-waiter.waiter c.index-seats-waiter.result refl c.loop-waiter-test.true c.index-seats-waiter.is in
    let is = says c.loop-waiter.waiter c.index-seats-waiter.result got in
    let so_far = c.loop-waiter.invariant events says in
    elim c.if-not-seat.branch [
      | then-not-seat+in_ok-add w ↦
          leaves-waiting c.loop-waiter.waiter events _ _ so_far _ (sym is ∙ w.if-not-seat.true)
          (ap (λ (log : Log). log.events.items) w.log-is ∙ w.in_ok-add.ensures.added)
      | else-not-seat w ↦
          leaves-ended c.loop-waiter.waiter events _ _ so_far _ (sym is ∙ w.if-not-seat.false) (ap (λ (log : Log). log.events.items) w.log-is)
    ]

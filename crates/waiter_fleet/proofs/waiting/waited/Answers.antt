use Rattle.std.proofs.Common.{◌≡◌, ◌++◌, List, length, subst, ◌∙◌}
use Rattle.waiter_fleet.specs.declared.event.FleetEvent.{FleetEvent}
use Rattle.waiter_fleet.specs.declared.seat.Seat.{Seat}
use Rattle.waiter_fleet.specs.Acts.{events_of}
use Rattle.waiter_fleet.specs.Events.{in_order}
use Rattle.waiter_fleet.specs.Fleet.{left_over}
use Rattle.waiter_fleet.specs.Fleets.{SayWhoEnded}
use Rattle.waiter_fleet.proofs.Ends.{waits-over}
use Rattle.waiter_fleet.proofs.waiting.waited.Goals as goal

pub returns : goal.returns
returns g c =
    let over = c.in-Ok.ensures in
    let P : List Seat → Type 0 = λ seats. (events : List FleetEvent) → SayWhoEnded events seats →
    c.leave.new.log.events.items ≡ c.in-Ok.ran.log.events.items ++ in_order (left_over (length seats) events) in
    waits-over g.W.FleetWorld.does g.W.FleetWorld.waits _ c.in-Ok.ran.start c.from_vec.result g.met.W.FleetWorld.counts_waits c.requires.has_room over
    (c.from_vec.ensures ∙ subst P c.as_slice.ensures.value c.in_default.ensures (events_of over.acts) over.says)

use Rattle.std.proofs.Common.{◌++◌, ◌∙◌, ap, sym}
use Rattle.waiter_fleet.specs.declared.event.FleetEvent.{FleetEvent}
use Rattle.cli_waiters.specs.Print.{event_data, line_of}
use Rattle.cli_waiters.proofs.Lines.{events_more, events_end}
use Rattle.cli_waiters.proofs.print.print_events.Goals as goal

pub loop-event-preserved : goal.loop-event-preserved
loop-event-preserved c =
    events_more c.loop-event.event-index c.args.events.now c.event-item.result c.loop-event.out.items c.write_event.new.out.items c.loop-event-test.true
    (c.in_ok-write_event.ensures ∙ ap (λ (event : FleetEvent). c.loop-event.out.items ++ line_of (event_data event)) c.event-item.is)
    ∙ c.loop-event.invariant

pub returns : goal.returns
returns c = sym (events_end c.loop-event.event-index c.args.events.now c.loop-event.out.items c.loop-event-test.false) ∙ c.loop-event.invariant

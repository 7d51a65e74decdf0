use Rattle.std.proofs.Common.{◌≡◌, ◌++◌, drop}
use Rattle.cli_waiters.specs.Print.{events_text}
use Rattle.cli_waiters.proofs.print.print_events.Given as goal

abbrev pub invariant-loop-event : goal.invariant-loop-event
invariant-loop-event l = l.out.items ++ events_text (drop l.event-index l.events) ≡ l.initial.out.items ++ events_text l.events

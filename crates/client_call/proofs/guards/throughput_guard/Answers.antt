use Rattle.std.proofs.Common.{sym}
use Rattle.client_call.proofs.GuardLemmas.{started_by}
use Rattle.client_call.proofs.guards.throughput_guard.Goals as goal

pub returns-in-Some : goal.returns-in-Some
returns-in-Some g c = rw (sym c.in-Some.ensures)
    (started_by g.X.Outside.makes g.X.Timers.relates g.met.X.Outside.timers_make c.in-Some.options _ c.new.result _ _ c.new.ensures)

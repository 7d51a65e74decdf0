use Rattle.client_call.proofs.ReadLemmas.{Went}
use Rattle.client_call.proofs.body.frames.Given as goal

-- the frames so far went on
abbrev pub invariant-loop : goal.invariant-loop
invariant-loop g l = Went g.X.Outside.makes g.X.Timers.sleeps g.met.X.Outside.sleeps_stay l.fn.reading l.reading l.fn.outside l.outside l.counter

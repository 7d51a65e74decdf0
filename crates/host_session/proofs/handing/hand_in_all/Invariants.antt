use Rattle.std.proofs.Common.{◌≡◌}
use Rattle.host_session.specs.Handing.{all_handed}
use Rattle.host_session.proofs.handing.hand_in_all.Given as goal

-- those so far were handed in
abbrev pub invariant-loop-event : goal.invariant-loop-event
invariant-loop-event l = l.outside ≡ all_handed l.yielded l.fn.outside

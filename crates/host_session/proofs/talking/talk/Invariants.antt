use Rattle.std.proofs.Common.{◌≤◌}
use Rattle.host_session.specs.Talking.{stand}
use Rattle.host_session.proofs.TalkLemmas.{Told}
use Rattle.host_session.proofs.talking.talk.Given as goal

-- each line so far was told of
abbrev pub invariant-loop-turns : goal.invariant-loop-turns
invariant-loop-turns g l =
    Told (record {
      calls = g.W.World.calls;
      relates = g.W.World.relates;
      parks = g.W.Parking.parks;
      outside = g.W.HostedWorld.outside;
      with_outside = g.W.HostedWorld.with_outside;
      quota = g.W.HostedWorld.paid_from;
      with_quota = g.W.HostedWorld.with_quota;
      emptied = g.W.HostedWorld.emptied;
      rests = g.W.HostedWorld.rests;
    }) l.turns
    (stand l.fn.session l.fn.lines.unread.items (g.S.Source.view l.fn.source) (g.K.Sink.view l.fn.sink))
    (stand l.session l.lines.unread.items (g.S.Source.view l.source) (g.K.Sink.view l.sink))
    × ((g.S.Source.view l.fn.source).faults ≤ (g.S.Source.view l.source).faults)
    × ((g.K.Sink.view l.fn.sink).faults ≤ (g.K.Sink.view l.sink).faults)

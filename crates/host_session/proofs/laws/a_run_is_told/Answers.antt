use Rattle.host_session.proofs.SessionLemmas.{tells}
use Rattle.host_session.proofs.laws.a_run_is_told.Goals as goal

pub returns : goal.returns
returns g c = tells _ g.met.W.HostedWorld.calls_stay g.met.W.HostedWorld.calls_go g.met.W.HostedWorld.rests_quietly

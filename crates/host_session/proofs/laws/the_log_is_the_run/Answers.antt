use Rattle.host_session.proofs.SessionLemmas.{feeds}
use Rattle.host_session.proofs.laws.the_log_is_the_run.Goals as goal

pub returns : goal.returns
returns g c =
    feeds _ g.met.W.HostedWorld.calls_stay g.met.W.HostedWorld.calls_go g.met.W.HostedWorld.rests_quietly
    g.met.W.HostedWorld.quota_keeps_calls

use Rattle.host_session.proofs.Delays.{waits_as_asked}
use Rattle.host_session.proofs.laws.a_retry_waits_as_the_response_asks.Goals as goal

pub returns : goal.returns
returns g c own retry_after context = waits_as_asked g.C.ClassifyRetry.says context own retry_after

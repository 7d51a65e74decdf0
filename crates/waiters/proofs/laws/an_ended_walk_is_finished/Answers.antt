use Rattle.waiters.proofs.LastCalls.{ended-not-unfinished}
use Rattle.waiters.proofs.laws.an_ended_walk_is_finished.Goals as goal

pub returns : goal.returns
returns g c = ended-not-unfinished c.args.backoff.now (goal.F-post g c.args.acceptor.now)

use Rattle.waiters.proofs.Seeing.{accepts-seen}
use Rattle.waiters.proofs.verdict.state_of.Goals as goal

pub returns-in-Some : goal.returns-in-Some
returns-in-Some g c = accepts-seen (goal.F-post g c.args.acceptor.now) c.args.polled.now _ _ c.in-Some.ensures c.acceptor.ensures

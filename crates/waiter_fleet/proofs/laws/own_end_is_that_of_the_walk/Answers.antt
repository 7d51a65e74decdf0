use Rattle.waiter_fleet.proofs.Closings.{ends-walk}
use Rattle.waiter_fleet.proofs.laws.own_end_is_that_of_the_walk.Goals as goal

pub returns : goal.returns
returns g c book start waiter number moment seen state ending earlier fault response fleet planned accepts =
    ends-walk fault response c.args.plans.now book start waiter c.args.backoff.now (goal.F-post g c.args.acceptor.now)
    earlier number moment seen state ending fleet planned accepts

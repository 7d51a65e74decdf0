use Rattle.waiter_fleet.proofs.Walkings.{walks-fleet}
use Rattle.waiter_fleet.proofs.laws.own_turns_are_a_walk.Goals as goal

pub returns : goal.returns
returns g c book start waiter events fault response fleet planned accepted =
    walks-fleet fault response c.args.plans.now book start waiter c.args.backoff.now planned (goal.F-post g c.args.acceptor.now) events fleet accepted

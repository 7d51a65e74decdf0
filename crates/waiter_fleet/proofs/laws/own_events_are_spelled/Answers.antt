use Rattle.waiter_fleet.proofs.Spelling.{last-fleet, spelled-fleet}
use Rattle.waiter_fleet.proofs.laws.own_events_are_spelled.Goals as goal

pub returns-clause-spelled : goal.returns-clause-spelled
returns-clause-spelled c book start waiter events fleet = spelled-fleet c.args.plans.now book start waiter events fleet

pub returns-clause-last : goal.returns-clause-last
returns-clause-last c book start waiter events fleet = last-fleet c.args.plans.now book start waiter events fleet

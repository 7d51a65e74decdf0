use Rattle.waiter_fleet.proofs.Legal.{legal-fleet}
use Rattle.waiter_fleet.proofs.laws.steps_are_legal.Goals as goal

pub returns-clause-legal : goal.returns-clause-legal
returns-clause-legal c book start events fleet = (legal-fleet c.args.plans.now book start events fleet).0

pub returns-clause-ends : goal.returns-clause-ends
returns-clause-ends c book start events fleet = (legal-fleet c.args.plans.now book start events fleet).1

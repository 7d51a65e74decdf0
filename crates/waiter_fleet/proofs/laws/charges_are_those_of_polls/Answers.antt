use Rattle.waiter_fleet.proofs.Charges.{pays-fleet}
use Rattle.waiter_fleet.proofs.laws.charges_are_those_of_polls.Goals as goal

pub returns : goal.returns
returns c book start waiter events fleet = pays-fleet c.args.plans.now book start waiter events fleet

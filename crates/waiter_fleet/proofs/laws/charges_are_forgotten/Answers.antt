use Rattle.waiter_fleet.proofs.Forgets.{charges-bounded, forgotten-fleet}
use Rattle.waiter_fleet.proofs.laws.charges_are_forgotten.Goals as goal

pub returns-clause-forgotten : goal.returns-clause-forgotten
returns-clause-forgotten c = forgotten-fleet c.args.plans.now

pub returns-clause-bounded : goal.returns-clause-bounded
returns-clause-bounded c = charges-bounded c.args.plans.now

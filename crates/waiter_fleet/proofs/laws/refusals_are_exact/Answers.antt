use Rattle.waiter_fleet.proofs.Forgets.{charged-enough, refused-short}
use Rattle.waiter_fleet.proofs.laws.refusals_are_exact.Goals as goal

pub returns-clause-refused : goal.returns-clause-refused
returns-clause-refused c = refused-short c.args.plans.now

pub returns-clause-charged : goal.returns-clause-charged
returns-clause-charged c = charged-enough c.args.plans.now

use Rattle.retry_policy.proofs.StepLemmas.{decision_adds}
use Rattle.retry_policy.proofs.laws.a_decision_adds_its_steps.Goals as goal

pub returns : goal.returns
returns g c means m n case held reply grant entries told made = decision_adds means m n case held reply grant entries told made

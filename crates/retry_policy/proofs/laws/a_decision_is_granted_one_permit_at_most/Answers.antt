use Rattle.retry_policy.proofs.GrantLemmas.{one_permit, a_permit, no_permit}
use Rattle.retry_policy.proofs.laws.a_decision_is_granted_one_permit_at_most.Goals as goal

pub returns-clause-most : goal.returns-clause-most
returns-clause-most c case held reply grant = one_permit case held reply grant

pub returns-clause-one : goal.returns-clause-one
returns-clause-one c case held reply grant wait e = a_permit case held reply grant wait e

pub returns-clause-none : goal.returns-clause-none
returns-clause-none c case held reply grant e = no_permit case held reply grant e
